use Rattle.std.proofs.Common.{◌<◌, length, get_or, sym, ap, ◌∙◌, arith}
use Rattle.njh_spool.specs.declared.customer_files.CustomerFiles.{CustomerFiles}
use Rattle.njh_spool.specs.CustomerSpool.{CustomerSpool}
use Rattle.njh_spool.specs.Spools.{spool_at}
use Rattle.njh_spool.specs.code.Slots.{whole_file}
use Rattle.njh_spool.proofs.KeptLaws.{own_is}
use Rattle.std.proofs.lemmas.List.{length-map}
use Rattle.njh_spool.proofs.PlaceLaws.{slice_get-map}
use Rattle.njh_spool.proofs.Calls.{call_on, own_at, files_at}
use Rattle.njh_spool.proofs.CallFinds as finds
use Rattle.njh_spool.proofs.spool.Spool.file_at.Goals as goal

pub index-requires : goal.index-requires
index-requires c =
    let here = call_on c.self.inside c.args.customer 0 c.self.invariant (rw c.self.view_is c.requires.range) in
    omega (arith, (finds.has here).within, c.from.ensures, c.self.inside.customers.ok.0)

pub at-requires : goal.at-requires
at-requires c =
    let here = call_on c.self.inside c.args.customer 0 c.self.invariant (rw c.self.view_is c.requires.range) in
    let has = finds.has here in
    let own =
    own_is c.self.inside.customers.items c.args.customer c.from.result c.index.result.now has.within c.from.ensures
    c.index.ensures in
    let lists = ap (λ (o : CustomerFiles). length o.whole) own in
    let many =
    ap (λ (s : CustomerSpool). length s.whole) (ap (spool_at c.args.customer) (sym c.self.view_is) ∙ has.part) in
    omega (arith, lists, many, c.requires.index_range, length-map (own_at here).whole (whole_file (files_at here)))

pub returns-clause-sound : goal.returns-clause-sound
returns-clause-sound c =
    let here = call_on c.self.inside c.args.customer 0 c.self.invariant (rw c.self.view_is c.requires.range) in
    let has = finds.has here in
    rw (← c.self.view_is, has.part) has.own.sound

pub returns-clause-number : goal.returns-clause-number
returns-clause-number c =
    let here = call_on c.self.inside c.args.customer 0 c.self.invariant (rw c.self.view_is c.requires.range) in
    let has = finds.has here in
    let own =
    own_is c.self.inside.customers.items c.args.customer c.from.result c.index.result.now has.within c.from.ensures
    c.index.ensures in
    let many =
    ap (λ (s : CustomerSpool). length s.whole) (ap (spool_at c.args.customer) (sym c.self.view_is) ∙ has.part) in
    let numbers = (own_at here).whole in
    let within : c.args.index < length numbers =
    omega (arith, many, c.requires.index_range, length-map numbers (whole_file (files_at here))) in
    let number = c.of.ensures ∙ c.at.ensures ∙ ap (λ (o : CustomerFiles). get_or o.whole c.args.index 0) own in
    rw (← c.self.view_is, has.part, slice_get-map (whole_file (files_at here)) numbers c.args.index within) number
