use Rattle.std.proofs.Common.{List, drop, sym, ap, ◌∙◌, arith}
use Rattle.std.specs.Prelude.{slice_get}
use Rattle.njh_record.specs.Stored.{Stored}
use Rattle.njh_spool.specs.code.Chains.{chain_at}
use Rattle.njh_spool.proofs.ReaderLaws.{none_left, one_less}
use Rattle.njh_spool.proofs.record_reader.RecordReader.next.Goals as goal

pub returns-then-self-clause-first : goal.returns-then-self-clause-first
returns-then-self-clause-first c =
    let none =
    none_left c.self.inside.slot (chain_at c.self.inside.at c.self.inside.store.now) c.self.inside.next (omega arith) in
    ap (λ (xs : List Stored). slice_get xs 0) (sym none ∙ c.self.view_is)

pub returns-then-self-clause-rest : goal.returns-then-self-clause-rest
returns-then-self-clause-rest c =
    let none =
    none_left c.self.inside.slot (chain_at c.self.inside.at c.self.inside.store.now) c.self.inside.next (omega arith) in
    sym c.self.view_is ∙ none ∙ ap (drop 1) (sym none ∙ c.self.view_is)

pub returns-clause-first : goal.returns-clause-first
returns-clause-first c =
    let less = one_less c.self.inside.slot (chain_at c.self.inside.at c.self.inside.store.now) c.self.inside.next
    c.read_record-srcb.result.1 (record {
      srcb = c.read_record-srcb.result.0;
      bytes =
          c.read_record-srcb.new.into.items;
    })
    c.read_record-srcb.ensures.record c.read_record-srcb.ensures.next in
    ap (λ (xs : List Stored). slice_get xs 0) (sym less ∙ c.self.view_is)

pub returns-clause-rest : goal.returns-clause-rest
returns-clause-rest c =
    let less = one_less c.self.inside.slot (chain_at c.self.inside.at c.self.inside.store.now) c.self.inside.next
    c.read_record-srcb.result.1 (record {
      srcb = c.read_record-srcb.result.0;
      bytes =
          c.read_record-srcb.new.into.items;
    })
    c.read_record-srcb.ensures.record c.read_record-srcb.ensures.next in
    ap (drop 1) (sym less ∙ c.self.view_is)
