use Rattle.std.proofs.Common.{◌≡◌, ◌∷◌, ◌++◌, length, drop, ap, ◌∙◌, arith, rules}
use Rattle.std.specs.Prelude.{ℕ, flat_map}
use Rattle.std.proofs.lemmas.List.{length-append, length-take-le}
use Rattle.njh_bisync.specs.code.PlainBytes.{plain_len}
use Rattle.njh_bisync.specs.Written.{bytes_of_data}
use Rattle.njh_bisync.proofs.WrittenLaws.{length-data_bytes}
use Rattle.njh_bisync.proofs.PlainLaws.{written-run, written-whole, put-run}
use Rattle.njh_bisync.proofs.write.put_data.Goals as goal

pub put_bytes-requires : goal.put_bytes-requires
put_bytes-requires c = omega (arith, length-data_bytes c.loop-byte.rest.now)

pub returns-in_default-clause-items : goal.returns-in_default-clause-items
returns-in_default-clause-items c =
    let whole = written-whole c.loop-byte.rest.now (omega (arith, c.in_default.ensures.cases)) in
    rw (c.put_bytes.ensures.items, c.split_at.ensures.front, c.plain_len.ensures.exact, ← whole)
    c.loop-byte.invariant.items

pub put_bytes-requires-in-loop-byte : goal.put_bytes-requires-in-loop-byte
put_bytes-requires-in-loop-byte c =
    let rest = c.loop-byte.rest.now in
    let at : drop (plain_len rest) rest ≡ c.in-Some.byte.now ∷ c.in-Some.after.now = search rules in
    let written = written-run rest c.in-Some.after.now c.in-Some.byte.now at in
    omega (
      arith,
      ap (length {A = ℕ}) written,
      ap (length {A = ℕ}) c.put_bytes.ensures.items,
      length-append {A = ℕ},
      length-take-le (plain_len rest) rest (omega arith),
    )

pub loop-byte-preserved : goal.loop-byte-preserved
loop-byte-preserved c =
    let rest = c.loop-byte.rest.now in
    let at : drop (plain_len rest) rest ≡ c.in-Some.byte.now ∷ c.in-Some.after.now = search rules in
    let written = written-run rest c.in-Some.after.now c.in-Some.byte.now at in
    let items : c.put_bytes-in-loop-byte.new.out.items ++ flat_map bytes_of_data c.in-Some.after.now
    ≡ c.loop-byte.out.items ++ flat_map bytes_of_data rest =
    rw (
      c.put_bytes-in-loop-byte.ensures.items,
      c.put_bytes.ensures.items,
      c.split_at.ensures.front,
      c.plain_len.ensures.exact,
    )
    (put-run c.loop-byte.out.items _ _ (flat_map bytes_of_data rest) c.in-Some.byte.now written) in
    record {
      items = items ∙ c.loop-byte.invariant.items;
      room = omega (arith, ap (length {A = ℕ}) items, length-append {A = ℕ});
      kept = search rules;
    }
