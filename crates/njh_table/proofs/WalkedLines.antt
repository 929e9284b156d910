-- What the walk over a customer's lines gives.
use Rattle.std.proofs.Common.{◌≡◌, ℕ, ◌+◌, ◌<◌, ◌≤◌, true, false, nat_le, List, [], ◌∷◌, ◌++◌, length, map}
use Rattle.std.proofs.Common.{bytes_eq, All, None, refl, sym, ap, subst, ◌∙◌, append_assoc, arith}
use Rattle.std.specs.List.{list_any}
use Rattle.std.proofs.lemmas.Bool.{leb-false, or_parts, or_from}
use Rattle.std.proofs.lemmas.List.{length-append, map-append}
use Rattle.std.proofs.lemmas.List.Folds.{list_any-append}
use Rattle.std.proofs.lemmas.List.Elements.{All-push}
use Rattle.toml.specs.Data.{Data, Members, Items, no_items, item}
use Rattle.njh_table.specs.declared.fault.TableFault.TheVariants.{TooMany, DoubleLine}
use Rattle.njh_table.specs.declared.Protocol.TheVariants.{Bisync}
use Rattle.njh_table.specs.declared.places.Key.TheVariants as named
use Rattle.njh_table.specs.declared.places.Part.{Part}
use Rattle.njh_table.specs.declared.places.Part.TheVariants as parts
use Rattle.njh_table.specs.Limits.{max_lines, min_block, max_block, max_streams, max_port}
use Rattle.njh_table.specs.Accepted.{IsBetween, AreDistinct, IsLine}
use Rattle.njh_table.specs.Places.{at_part, at_value}
use Rattle.njh_table.specs.TableFile.{NamedLine}
use Rattle.njh_table.specs.Keys.{number, node_name, is_line_name, line_name, role, password, peer, from, may_be_tcp}
use Rattle.njh_table.specs.Keys.{protocol}
use Rattle.njh_table.specs.Walk.{walked_line, next_line, lines_onto}
use Rattle.njh_table.proofs.OwnersLaws.{AreApart}
use Rattle.njh_table.proofs.Gives.{Gives, and_then, weaker, past, with_keys, with_value, with_any, with_value_or}
use Rattle.njh_table.proofs.Gives.{with_any_or, number-is, line_name-is, IsPeerOf, peer-is}
use Rattle.njh_table.proofs.ProtocolLaws.{IsProtocolOf, bisync-is, protocol-is}
use Rattle.njh_table.proofs.RangeLaws.{IsFromOf, from_nobody, from-is}
use Rattle.njh_table.proofs.Distinct.{distinct_push}

pub record IsNewLine (taken : List (List ℕ)) (l : NamedLine) : Type 0 where
  pub room : length taken < max_lines
  pub absent : list_any (bytes_eq l.name) taken ≡ false
  pub is : IsLine l

line_of-gives : (part : Part) (name : List ℕ) (keys : Members) → is_line_name name ≡ true
    → Gives (λ l. (l.name ≡ name) × IsLine l) (walked_line part name keys)
unfolding walked_line
line_of-gives part name keys is_name =
    with_any _ node_name part named.Node keys _ (λ node.
    with_any _ role part named.Role keys _ (λ role.
    with_value (IsBetween min_block max_block) _ (number min_block max_block) part named.Block keys _
    (number-is min_block max_block) (λ block in_block.
    with_value (IsBetween 1 max_streams) _ (number 1 max_streams) part named.Streams keys _ (number-is 1 max_streams)
    (λ streams in_streams.
    with_any_or _ password [] part named.Password keys _ (λ password.
    with_value_or (IsBetween 0 max_port) _ (number 0 max_port) 0 part named.Port keys _ (omega arith, omega arith)
    (number-is 0 max_port) (λ port in_port.
    with_value_or (IsPeerOf port) _ (peer port) None part named.Connect keys _ tt (peer-is port) (λ peer is_peer.
    with_value_or (IsFromOf port) _ (from port) [] part named.From keys _ (from_nobody port) (from-is port)
    (λ from is_from.
    with_value_or (IsProtocolOf role port peer) _ (protocol (may_be_tcp role port peer)) Bisync part named.Protocol keys _
    (bisync-is role port peer) (protocol-is role port peer) (λ protocol is_protocol. (
      refl,
      record {
        name = is_name;
        block = in_block;
        streams = in_streams;
        port = in_port.1;
        peer = is_peer;
        from = is_from.listens;
        few = is_from.few;
        ranges = is_from.written;
        answers = is_protocol.answers;
        calls = is_protocol.calls;
      },
    ))))))))))

next_line-gives : (part : Part) (taken : List (List ℕ)) (value : Data)
    → Gives (IsNewLine taken) (next_line part taken value)
unfolding next_line
next_line-gives part taken value =
    past _ (nat_le max_lines (length taken)) (at_part part TooMany) _ tt (λ room.
    with_keys _ part value _ (λ keys.
    with_value (λ name. is_line_name name ≡ true) _ line_name part named.Name keys _ line_name-is (λ name is_name.
    past _ (list_any (bytes_eq name) taken) (at_value part named.Name DoubleLine) _ tt (λ absent.
    weaker _ _ (walked_line part name keys) (line_of-gives part name keys is_name) (λ l is. record {
      room = leb-false max_lines (length taken) room;
      absent = ap (λ name. list_any (bytes_eq name) taken) is.0 ∙ absent;
      is = is.1;
    })))))

pub record AreLines (taken : List (List ℕ)) (lines : List NamedLine) : Type 0 where
  pub each : All IsLine lines
  pub count : length (taken ++ map (λ l. l.name) lines) ≤ max_lines
  pub distinct : AreDistinct (taken ++ map (λ l. l.name) lines)

names-push : (taken : List (List ℕ)) (done : List NamedLine) (l : NamedLine)
    → taken ++ map (λ l. l.name) (done ++ l ∷ []) ≡ (taken ++ map (λ l. l.name) done) ++ l.name ∷ []
names-push taken done l =
    ap (λ names. taken ++ names) (map-append (λ (l : NamedLine). l.name) done (l ∷ []))
    ∙ sym (append_assoc taken (map (λ l. l.name) done) (l.name ∷ []))

AreLines-push : (taken : List (List ℕ)) (done : List NamedLine) (l : NamedLine) → AreLines taken done
    → IsNewLine (taken ++ map (λ l. l.name) done) l → AreLines taken (done ++ l ∷ [])
AreLines-push taken done l lines new =
    let before = taken ++ map (λ l. l.name) done in
    let names = names-push taken done l in
    let longer : length (before ++ l.name ∷ []) ≡ length before + 1 = length-append before (l.name ∷ []) in
    record {
      each = All-push IsLine done l lines.each new.is;
      count = subst (λ ns. length ns ≤ max_lines) (sym names) (omega (arith, new.room, longer));
      distinct = subst AreDistinct (sym names) (distinct_push before l.name lines.distinct new.absent);
    }

pub lines_onto-gives : (customer : ℕ) (taken : List (List ℕ)) (done : List NamedLine) (values : Items)
    → AreLines taken done
    → Gives (AreLines taken) (lines_onto customer taken done values)
lines_onto-gives customer taken done no_items lines = lines
lines_onto-gives customer taken done (item value more) lines =
    let names = taken ++ map (λ l. l.name) done in
    and_then (IsNewLine names) (AreLines taken) (next_line (parts.Line customer (length done)) names value) _
    (next_line-gives (parts.Line customer (length done)) names value)
    (λ l new. lines_onto-gives customer taken (done ++ l ∷ []) more (AreLines-push taken done l lines new))

-- the lines of a customer have none of the names taken before
AreApart-push : (taken : List (List ℕ)) (done : List NamedLine) (l : NamedLine) → AreApart taken done
    → IsNewLine (taken ++ map (λ l. l.name) done) l → AreApart taken (done ++ l ∷ [])
AreApart-push taken done l apart new =
    let (here, _) = or_parts _ _ (sym (list_any-append (bytes_eq l.name) taken (map (λ l. l.name) done)) ∙ new.absent)
    in
    list_any-append (λ l. list_any (bytes_eq l.name) taken) done (l ∷ [])
    ∙ or_from _ _ apart (or_from _ false here refl)

pub lines_onto-apart : (customer : ℕ) (taken : List (List ℕ)) (done : List NamedLine) (values : Items)
    → AreApart taken done
    → Gives (AreApart taken) (lines_onto customer taken done values)
lines_onto-apart customer taken done no_items apart = apart
lines_onto-apart customer taken done (item value more) apart =
    let names = taken ++ map (λ l. l.name) done in
    and_then (IsNewLine names) (AreApart taken) (next_line (parts.Line customer (length done)) names value) _
    (next_line-gives (parts.Line customer (length done)) names value)
    (λ l new. lines_onto-apart customer taken (done ++ l ∷ []) more (AreApart-push taken done l apart new))
