-- What a connection over TCP/IP is told to say that its line doesn't write.
use Rattle.std.specs.Prelude.{◌≡◌, []}
use Rattle.njh_wire.specs.declared.connection.Saying.{Saying}
use Rattle.njh_wire.specs.declared.connection.Saying.TheVariants.{KeepAlive, SignOff}
use Rattle.njh_tcp.specs.Carried.{Carried}
use Rattle.njh_link.specs.Links.{keep_alive, sign_off, with_said}
use Rattle.njh_tcpwire.specs.Moves.{TcpState}

abbrev pub frame_said : Saying → Carried
frame_said KeepAlive = keep_alive
frame_said SignOff = sign_off

-- Nothing waited to go out, and then the TTB of this does.
pub record IsToldToSay {C : Type 0} (before after : TcpState C) (saying : Saying) : Type 0 where
  pub gone : before.link.waiting ≡ []
  pub stands : after ≡ record before { link = with_said (frame_said saying) before.link }
