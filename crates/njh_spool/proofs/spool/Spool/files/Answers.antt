use Rattle.std.proofs.Common.{length, sym, ap, ◌∙◌, arith}
use Rattle.njh_spool.specs.declared.customer_files.CustomerFiles.{CustomerFiles}
use Rattle.njh_spool.specs.code.Slots.{whole_file}
use Rattle.njh_spool.proofs.KeptLaws.{own_is}
use Rattle.std.proofs.lemmas.List.{length-map}
use Rattle.njh_spool.proofs.Calls.{call_on, own_at, files_at}
use Rattle.njh_spool.proofs.CallFinds as finds
use Rattle.njh_spool.proofs.spool.Spool.files.Goals as goal

pub index-requires : goal.index-requires
index-requires c =
    let here = call_on c.self.inside c.args.customer 0 c.self.invariant (rw c.self.view_is c.requires) in
    omega (arith, (finds.has here).within, c.from.ensures, c.self.inside.customers.ok.0)

pub overflow_cast-result : goal.overflow_cast-result
overflow_cast-result c =
    let here = call_on c.self.inside c.args.customer 0 c.self.invariant (rw c.self.view_is c.requires) in
    let has = finds.has here in
    let own =
    own_is c.self.inside.customers.items c.args.customer c.from.result c.index.result.now has.within c.from.ensures
    c.index.ensures in
    let lists = ap (λ (o : CustomerFiles). length o.whole) own in
    omega (
      arith,
      c.len.ensures,
      lists,
      has.own.sound.within_limit,
      has.own.sound.files_limit,
      length-map
          (own_at here).whole
          (whole_file (files_at here)),
    )

pub returns : goal.returns
returns c =
    let here = call_on c.self.inside c.args.customer 0 c.self.invariant (rw c.self.view_is c.requires) in
    let has = finds.has here in
    let own =
    own_is c.self.inside.customers.items c.args.customer c.from.result c.index.result.now has.within c.from.ensures
    c.index.ensures in
    rw (← c.self.view_is, has.part) (c.len.ensures ∙ ap (λ (o : CustomerFiles). length o.whole) own
    ∙ sym (length-map (own_at here).whole
    (whole_file (files_at here))))
