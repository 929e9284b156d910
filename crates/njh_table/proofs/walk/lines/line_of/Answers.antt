use Rattle.std.proofs.Common.{false, Ok, ap, sym, ◌∙◌}
use Rattle.toml.specs.View.{table_view}
use Rattle.njh_table.specs.declared.Protocol.TheVariants.{Bisync}
use Rattle.njh_table.specs.declared.places.Key.TheVariants.{Protocol}
use Rattle.njh_table.specs.Keys.{at_key_or, protocol}
use Rattle.njh_table.specs.TableFile.{password_bytes}
use Rattle.njh_table.specs.Walk.{walked_line}
use Rattle.njh_table.proofs.Loops.{goes_on, ends, stops}
use Rattle.njh_table.proofs.walk.lines.line_of.Goals as goal

pub returns-in_err-node-clause-walk : goal.returns-in_err-node-clause-walk
unfolding walked_line
returns-in_err-node-clause-walk c =
    stops _ _ _ _ c.from_residual.ensures.1
    (λ _. ends _ _ _ (sym c.in_err-node.ensures))

pub returns-in_err-role-clause-walk : goal.returns-in_err-role-clause-walk
unfolding walked_line
returns-in_err-role-clause-walk c =
    stops _ _ _ _ c.from_residual-in_err-role.ensures.1
    (λ _. goes_on _ _ _ (sym c.in_ok-node.ensures)
    ∙ ends _ _ _ (sym c.in_err-role.ensures))

pub returns-in_err-block-clause-walk : goal.returns-in_err-block-clause-walk
unfolding walked_line
returns-in_err-block-clause-walk c =
    stops _ _ _ _ c.from_residual-in_err-block.ensures.1
    (λ _. goes_on _ _ _ (sym c.in_ok-node.ensures)
    ∙ goes_on _ _ _ (sym c.in_ok-role.ensures)
    ∙ ends _ _ _ (sym c.in_err-block.ensures.read))

pub returns-in_err-streams-clause-walk : goal.returns-in_err-streams-clause-walk
unfolding walked_line
returns-in_err-streams-clause-walk c =
    stops _ _ _ _ c.from_residual-in_err-streams.ensures.1
    (λ _. goes_on _ _ _ (sym c.in_ok-node.ensures)
    ∙ goes_on _ _ _ (sym c.in_ok-role.ensures)
    ∙ goes_on _ _ _ (sym c.in_ok-block.ensures.read)
    ∙ ends _ _ _ (sym c.in_err-streams.ensures.read))

pub returns-in_err-password-clause-walk : goal.returns-in_err-password-clause-walk
unfolding walked_line
returns-in_err-password-clause-walk c =
    stops _ _ _ _ c.from_residual-in_err-password.ensures.1
    (λ _. goes_on _ _ _ (sym c.in_ok-node.ensures)
    ∙ goes_on _ _ _ (sym c.in_ok-role.ensures)
    ∙ goes_on _ _ _ (sym c.in_ok-block.ensures.read)
    ∙ goes_on _ _ _ (sym c.in_ok-streams.ensures.read)
    ∙ ends _ _ _ (sym c.in_err-password.ensures))

pub returns-in_err-port-clause-walk : goal.returns-in_err-port-clause-walk
unfolding walked_line
returns-in_err-port-clause-walk c =
    stops _ _ _ _ c.from_residual-in_err-port.ensures.1
    (λ _. goes_on _ _ _ (sym c.in_ok-node.ensures)
    ∙ goes_on _ _ _ (sym c.in_ok-role.ensures)
    ∙ goes_on _ _ _ (sym c.in_ok-block.ensures.read)
    ∙ goes_on _ _ _ (sym c.in_ok-streams.ensures.read)
    ∙ goes_on _ _ _ (sym c.in_ok-password.ensures)
    ∙ ends _ _ _ (sym c.in_err-port.ensures.read))

pub returns-in_err-peer-clause-walk : goal.returns-in_err-peer-clause-walk
unfolding walked_line
returns-in_err-peer-clause-walk c =
    stops _ _ _ _ c.from_residual-in_err-peer.ensures.1
    (λ _. goes_on _ _ _ (sym c.in_ok-node.ensures)
    ∙ goes_on _ _ _ (sym c.in_ok-role.ensures)
    ∙ goes_on _ _ _ (sym c.in_ok-block.ensures.read)
    ∙ goes_on _ _ _ (sym c.in_ok-streams.ensures.read)
    ∙ goes_on _ _ _ (sym c.in_ok-password.ensures)
    ∙ goes_on _ _ _ (sym c.in_ok-port.ensures.read)
    ∙ ends _ _ _ (sym c.in_err-peer.ensures))

pub returns-in_err-from-clause-walk : goal.returns-in_err-from-clause-walk
unfolding walked_line
returns-in_err-from-clause-walk c =
    stops _ _ _ _ c.from_residual-in_err-from.ensures.1
    (λ _. goes_on _ _ _ (sym c.in_ok-node.ensures)
    ∙ goes_on _ _ _ (sym c.in_ok-role.ensures)
    ∙ goes_on _ _ _ (sym c.in_ok-block.ensures.read)
    ∙ goes_on _ _ _ (sym c.in_ok-streams.ensures.read)
    ∙ goes_on _ _ _ (sym c.in_ok-password.ensures)
    ∙ goes_on _ _ _ (sym c.in_ok-port.ensures.read)
    ∙ goes_on _ _ _ (sym c.in_ok-peer.ensures)
    ∙ ends _ _ _ (sym c.in_err-from.ensures))

pub returns-in_err-protocol-clause-walk : goal.returns-in_err-protocol-clause-walk
unfolding walked_line
returns-in_err-protocol-clause-walk c =
    stops _ _ _ _ c.from_residual-in_err-protocol.ensures.1
    (λ _. goes_on _ _ _ (sym c.in_ok-node.ensures)
    ∙ goes_on _ _ _ (sym c.in_ok-role.ensures)
    ∙ goes_on _ _ _ (sym c.in_ok-block.ensures.read)
    ∙ goes_on _ _ _ (sym c.in_ok-streams.ensures.read)
    ∙ goes_on _ _ _ (sym c.in_ok-password.ensures)
    ∙ goes_on _ _ _ (sym c.in_ok-port.ensures.read)
    ∙ goes_on _ _ _ (sym c.in_ok-peer.ensures)
    ∙ goes_on _ _ _ (sym c.in_ok-from.ensures)
    ∙ ends _ _ _ (ap (λ tcp. at_key_or (protocol tcp) Bisync c.args.part Protocol (table_view c.args.keys.now))
    (sym c.may_be_tcp.ensures) ∙ sym c.in_err-protocol.ensures))

pub returns-clause-walk : goal.returns-clause-walk
unfolding walked_line
returns-clause-walk c =
    goes_on _ _ _ (sym c.in_ok-node.ensures)
    ∙ goes_on _ _ _ (sym c.in_ok-role.ensures)
    ∙ goes_on _ _ _ (sym c.in_ok-block.ensures.read)
    ∙ goes_on _ _ _ (sym c.in_ok-streams.ensures.read)
    ∙ goes_on _ _ _ (sym c.in_ok-password.ensures)
    ∙ goes_on _ _ _ (sym c.in_ok-port.ensures.read)
    ∙ goes_on _ _ _ (sym c.in_ok-peer.ensures)
    ∙ goes_on _ _ _ (sym c.in_ok-from.ensures)
    ∙ goes_on _ _ _ (ap (λ tcp. at_key_or (protocol tcp) Bisync c.args.part Protocol (table_view c.args.keys.now))
    (sym c.may_be_tcp.ensures) ∙ sym c.in_ok-protocol.ensures)
    ∙ ap (λ name. Ok (record {
      name = name;
      port = c.in_ok-port.field-0;
      peer = c.in_ok-peer.peer;
      from = c.in_ok-from.from;
      protocol = c.in_ok-protocol.protocol;
      up = false;
      entry = record {
        node = c.in_ok-node.node;
        role = c.in_ok-role.role;
        block = c.in_ok-block.field-0;
        streams = c.in_ok-streams.field-0;
        password = password_bytes c.in_ok-password.password;
      };
    })) (sym c.in_ok-from_str.ensures.ok)

pub returns-clause-name : goal.returns-clause-name
returns-clause-name c = c.in_ok-from_str.ensures.ok
