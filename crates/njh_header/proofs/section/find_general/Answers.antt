use Rattle.std.proofs.Common.{◌≡◌, arith, sym, ◌∙◌, ap, inl, drop}
use Rattle.njh_record.specs.Bytes.{number_at}
use Rattle.njh_header.proofs.Walking.{walk_begins, walk_passes, walk_cut}
use Rattle.njh_header.proofs.section.find_general.Goals as goal

pub loop-rest-init : goal.loop-rest-init
loop-rest-init c = record {
  shorter = omega arith;
  same = walk_begins c.args.size c.args.bytes.now c.split_at.result.1.now (omega arith) c.split_at.ensures.back;
}

pub returns-then-rest-lt-SIZE-clause-found : goal.returns-then-rest-lt-SIZE-clause-found
returns-then-rest-lt-SIZE-clause-found c =
    sym (walk_cut _ _ _ (record { some_left = grind arith; short = inl c.if-rest-lt-SIZE.true }))
    ∙ c.loop-rest.invariant.same

pub loop-rest-preserved : goal.loop-rest-preserved
loop-rest-preserved c =
    let length_is : c.from-length.result ≡ number_at 0 c.loop-rest.rest.now = omega arith in
    record {
      shorter = omega arith;
      same =
          walk_passes c.args.size c.args.bytes.now c.loop-rest.rest.now c.split_at-in-loop-rest.result.1.now
          (omega arith)
          (record {
            length_field = omega arith;
            within = omega arith;
            kind = λ zero. c.if-read_number-eq-GENERAL.false
                (omega arith);
          })
          (c.split_at-in-loop-rest.ensures.back ∙ ap (λ n. drop n c.loop-rest.rest.now) length_is)
          ∙ c.loop-rest.invariant.same;
    }
