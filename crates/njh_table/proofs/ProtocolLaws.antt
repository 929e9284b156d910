-- What the protocol of a line says of its role.
use Rattle.std.proofs.Common.{◌≡◌, ◌≢◌, ℕ, Bool, true, false, cond, ◌&&◌, List, Option, Some, None, IfSome, bytes_eq}
use Rattle.std.proofs.Common.{codes, option_and_then, refl}
use Rattle.std.specs.Prelude.{IsSome}
use Rattle.std.specs.declared.net.socket_addr.SocketAddr.{SocketAddr}
use Rattle.std.proofs.lemmas.Bool.{and_parts, eqb-true, false≢true}
use Rattle.toml.specs.Data.{Data, as_str}
use Rattle.njh_table.specs.declared.Protocol.{Protocol}
use Rattle.njh_table.specs.declared.Protocol.TheVariants.{Bisync, Tcp}
use Rattle.njh_table.specs.declared.Role.{Role}
use Rattle.njh_table.specs.declared.Role.TheVariants.{Call, Answer}
use Rattle.njh_table.specs.Keys.{may_be_tcp, protocol, protocol_of}

pub record IsProtocolOf (role : Role) (port : ℕ) (peer : Option SocketAddr) (p : Protocol) : Type 0 where
  pub answers : p ≡ Tcp → port ≢ 0 → role ≡ Answer
  pub calls : p ≡ Tcp → IsSome peer → role ≡ Call

pub bisync-is : (role : Role) (port : ℕ) (peer : Option SocketAddr) → IsProtocolOf role port peer Bisync
bisync-is role port peer = record { answers = λ tcp _. absurd (cc tcp); calls = λ tcp _. absurd (cc tcp) }

tcp-is : (role : Role) (port : ℕ) (peer : Option SocketAddr) → may_be_tcp role port peer ≡ true
    → IsProtocolOf role port peer Tcp
tcp-is Call port peer may = record { answers = λ _ listens. absurd (listens (eqb-true port 0 may)); calls = λ _ _. refl }
tcp-is Answer port None may = record { answers = λ _ _. refl; calls = λ _ some. absurd (false≢true some) }
tcp-is Answer port (Some address) may = absurd (false≢true may)

module _ (role : Role) (port : ℕ) (peer : Option SocketAddr) where
  named_tcp : (test : Bool) (text : List ℕ) → may_be_tcp role port peer && bytes_eq text (codes "tcp") ≡ test
      → IfSome (cond test (Some Tcp) None) (IsProtocolOf role port peer)
  named_tcp true text is = tcp-is role port peer (and_parts _ _ is).0
  named_tcp false text is = tt

  named_bisync : (test : Bool) (text : List ℕ)
      → IfSome (cond test (Some Bisync)
      (cond (may_be_tcp role port peer && bytes_eq text (codes "tcp")) (Some Tcp) None)) (IsProtocolOf role port peer)
  named_bisync true text = bisync-is role port peer
  named_bisync false text = named_tcp (may_be_tcp role port peer && bytes_eq text (codes "tcp")) text refl

  read : (text : Option (List ℕ)) → IfSome (option_and_then (protocol_of (may_be_tcp role port peer)) text)
      (IsProtocolOf role port peer)
  read None = tt
  read (Some text) = named_bisync (bytes_eq text (codes "bisync")) text

  pub protocol-is : (value : Data) → IfSome (protocol (may_be_tcp role port peer) value) (IsProtocolOf role port peer)
  protocol-is value = read (as_str value)
