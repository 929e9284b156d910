use Rattle.std.proofs.Common.{◌≡◌, ℕ, true, false, List, drop, Option, None, Some, sym, subst, ap, ◌∙◌, arith}
use Rattle.std.specs.Prelude.{slice_get}
use Rattle.std.specs.Option.{option_map}
use Rattle.njh_record.specs.Stored.{Stored}
use Rattle.njh_spool.specs.Headers.{is_header_srcb}
use Rattle.njh_spool.specs.code.Chains.{chain_at}
use Rattle.njh_spool.specs.code.Packing.{IsShort}
use Rattle.njh_spool.proofs.RecordLaws.{in_file}
use Rattle.njh_spool.proofs.ReaderLaws.{none_left, one_passed}
use Rattle.njh_spool.proofs.HeadersEndLaws.{header_srcb}
use Rattle.njh_spool.proofs.record_reader.RecordReader.next_header.Goals as goal

abbrev srcb_of : Option Stored → Option ℕ
srcb_of = option_map (λ r. r.srcb)

pub returns-then-self-clause-srcb : goal.returns-then-self-clause-srcb
returns-then-self-clause-srcb c =
    let none =
    none_left c.self.inside.slot (chain_at c.self.inside.at c.self.inside.store.now) c.self.inside.next (omega arith) in
    ap (λ (xs : List Stored). srcb_of (slice_get xs 0)) (sym c.self.view_is ∙ none)

pub returns-then-self-clause-rest : goal.returns-then-self-clause-rest
returns-then-self-clause-rest c =
    let none =
    none_left c.self.inside.slot (chain_at c.self.inside.at c.self.inside.store.now) c.self.inside.next (omega arith) in
    sym c.self.view_is ∙ none ∙ ap (drop 1) (sym none ∙ c.self.view_is)

pub returns-clause-srcb : goal.returns-clause-srcb
returns-clause-srcb c =
    let passed = one_passed c.self.inside.slot (chain_at c.self.inside.at c.self.inside.store.now) c.self.inside.next
    c.pass_record-srcb.result.1 c.pass_record-srcb.result.0 c.pass_record-srcb.ensures.srcb
    c.pass_record-srcb.ensures.next in
    ap (λ (xs : List Stored). srcb_of (slice_get xs 0)) (sym c.self.view_is ∙ passed.3) ∙ ap Some passed.1

pub returns-clause-header : goal.returns-clause-header
returns-clause-header c =
    let passed = one_passed c.self.inside.slot (chain_at c.self.inside.at c.self.inside.store.now) c.self.inside.next
    c.pass_record-srcb.result.1 c.pass_record-srcb.result.0 c.pass_record-srcb.ensures.srcb
    c.pass_record-srcb.ensures.next in
    let first : slice_get c.args.self.now 0 ≡ Some passed.0 =
    ap (λ (xs : List Stored). slice_get xs 0) (sym c.self.view_is ∙ passed.3) in
    λ srcb is same.
    let value : c.pass_record-srcb.result.0 ≡ srcb = cc in
    elim c.if-is_header.branch [
      | goal.then-is_header w ↦
          let found : Some passed.0 ≡ Some (record {
            srcb = w.read_record.result.0;
            bytes = w.read_record.new.into.items;
          }) = sym passed.2 ∙ w.read_record.ensures.record in
          let read : passed.0 ≡ record { srcb = w.read_record.result.0; bytes = w.read_record.new.into.items } = cc in
          let code : w.read_record.result.0 ≡ srcb = sym (ap (λ (r : Stored). r.srcb) read) ∙ passed.1 ∙ value in
          rw w.into-is (first ∙ ap Some (read
          ∙ ap (λ (n : ℕ). record { srcb = n; bytes = w.read_record.new.into.items }) code))
      | goal.else-is_header w ↦
          let is_one : is_header_srcb c.pass_record-srcb.result.0 ≡ true =
          ap is_header_srcb value ∙ header_srcb srcb is in
          absurd (let clash : false ≡ true = sym w.if-is_header.false ∙ c.is_header.ensures ∙ is_one in cc)
    ]

pub returns-clause-rest : goal.returns-clause-rest
returns-clause-rest c =
    let passed = one_passed c.self.inside.slot (chain_at c.self.inside.at c.self.inside.store.now) c.self.inside.next
    c.pass_record-srcb.result.1 c.pass_record-srcb.result.0 c.pass_record-srcb.ensures.srcb
    c.pass_record-srcb.ensures.next in
    ap (drop 1) (sym passed.3 ∙ c.self.view_is)

pub returns-then-self-clause-short : goal.returns-then-self-clause-short
returns-then-self-clause-short c =
    let none =
    none_left c.self.inside.slot (chain_at c.self.inside.at c.self.inside.store.now) c.self.inside.next (omega arith) in
    let no : slice_get c.args.self.now 0 ≡ None =
    ap (λ (xs : List Stored). slice_get xs 0) (sym c.self.view_is ∙ none) in
    λ r is. absurd (let clash : None ≡ Some r = sym no ∙ is in cc)

pub returns-clause-short : goal.returns-clause-short
returns-clause-short c =
    let slot = c.self.inside.slot in
    let chain = chain_at c.self.inside.at c.self.inside.store.now in
    let passed = one_passed slot chain c.self.inside.next c.pass_record-srcb.result.1 c.pass_record-srcb.result.0
    c.pass_record-srcb.ensures.srcb c.pass_record-srcb.ensures.next in
    let there = in_file slot chain c.self.inside.next.record_index c.self.invariant.file c.if-self.false in
    let first : slice_get c.args.self.now 0 ≡ Some passed.0 =
    ap (λ (xs : List Stored). slice_get xs 0) (sym c.self.view_is ∙ passed.3) in
    let found : Some there.0 ≡ Some passed.0 = sym there.1.found ∙ passed.2 in
    λ r is.
    let one : Some passed.0 ≡ Some r = sym first ∙ is in
    let same : there.0 ≡ r = cc in
    subst IsShort same there.1.short
