use Rattle.std.proofs.Common.{◌<◌, ◌≤◌, List, length, ap, subst, sym, arith}
use Rattle.std.proofs.lemmas.List.{get_or_past}
use Rattle.njh_spool.specs.Spools.{IsSound}
use Rattle.njh_stream.specs.WholeFiles.{HaveHeaders}
use Rattle.njh_hub.specs.WholeHub.{Part, no_part, part}
use Rattle.njh_hub.proofs.ComingLaws.{no_headers_are_bad, no_part_is_sound}
use Rattle.njh_hub.proofs.PartsLaws.{headers-there, length-parts_of, part-there}
use Rattle.njh_hub.proofs.hub.Hub.files_are_sound.Goals as goal

pub returns-then-from-len-clause-sound : goal.returns-then-from-len-clause-sound
returns-then-from-len-clause-sound c =
    let s = c.self.inside in
    let there : c.args.customer < length s.shared.tables.customers =
    omega (arith, s.lines.ok.0, c.self.invariant.lined) in
    subst (λ (ps : List Part). IsSound (part c.args.customer ps).customer.spool) c.self.view_is
    (subst (λ (p : Part). IsSound p.customer.spool)
    (sym (part-there s.shared.tables s.shared.spool s.lines.items c.args.customer there)) c.quota_holds.ensures.sound)

pub returns-then-from-len-clause-headers : goal.returns-then-from-len-clause-headers
returns-then-from-len-clause-headers c =
    let s = c.self.inside in
    let there : c.args.customer < length s.shared.tables.customers =
    omega (arith, s.lines.ok.0, c.self.invariant.lined) in
    subst (λ (ps : List Part). HaveHeaders (part c.args.customer ps).customer.spool.whole) c.self.view_is
    (headers-there s.shared.tables s.shared.spool s.lines.items c.args.customer c.self.invariant there)

pub returns-else-from-len-clause-sound : goal.returns-else-from-len-clause-sound
returns-else-from-len-clause-sound c =
    let s = c.self.inside in
    let count = length-parts_of s.shared.tables s.shared.spool s.lines.items in
    let past : length c.args.self.now ≤ c.args.customer =
    omega (arith, count, ap (λ (ps : List Part). length ps) c.self.view_is, s.lines.ok.0, c.self.invariant.lined) in
    subst (λ (p : Part). IsSound p.customer.spool) (sym (get_or_past c.args.self.now c.args.customer no_part past))
    no_part_is_sound

pub returns-else-from-len-clause-headers : goal.returns-else-from-len-clause-headers
returns-else-from-len-clause-headers c =
    let s = c.self.inside in
    let count = length-parts_of s.shared.tables s.shared.spool s.lines.items in
    let past : length c.args.self.now ≤ c.args.customer =
    omega (arith, count, ap (λ (ps : List Part). length ps) c.self.view_is, s.lines.ok.0, c.self.invariant.lined) in
    subst (λ (p : Part). HaveHeaders p.customer.spool.whole)
    (sym (get_or_past c.args.self.now c.args.customer no_part past)) no_headers_are_bad
