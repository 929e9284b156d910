-- What a nodal message of a line of words says.
use Rattle.std.specs.Prelude.{ℕ, List}
use Rattle.njh_nmr.specs.Nodal.{Nodal}
use Rattle.njh_encode.specs.declared.statement.Ends.{Ends}

-- between these ends, with the level, type and qualifiers of a node without members
abbrev pub message_between : ℕ → Ends → List ℕ → Nodal
message_between flag ends text = record {
  flag = flag;
  level = 0x77;
  kind = 0x00;
  to = ends.to;
  to_qualifier = 0x00;
  user = ends.user;
  origin = ends.origin;
  origin_qualifier = 0x00;
  message = text;
}
