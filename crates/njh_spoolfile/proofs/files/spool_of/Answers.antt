use Rattle.std.proofs.Common.{arith}
use Rattle.njh_spoolfile.proofs.files.spool_of.Goals as goal

pub over-requires : goal.over-requires
over-requires g c clean = let idle = c.in_ok-prepare.ensures.ready clean in record
    { is_open = idle.is_open; schema = idle.schema }

pub returns-clause-becomes : goal.returns-clause-becomes
returns-clause-becomes g c = rw c.over.ensures.0 (record {
  clean = λ clean. omega (arith, c.prepare.ensures.crash.clean);
  live = c.schema-schema.ensures.live;
  idle = c.in_ok-prepare.ensures.ready;
  outcome = c.in_ok-prepare.ensures.outcome;
})
