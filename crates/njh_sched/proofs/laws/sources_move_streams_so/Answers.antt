use Rattle.njh_sched.proofs.StreamLaws.{does}
use Rattle.njh_sched.proofs.EachLaws.{each_does}
use Rattle.njh_sched.proofs.laws.sources_move_streams_so.Goals as goal

pub returns-clause-one : goal.returns-clause-one
returns-clause-one c goes k source x few inside = does goes k x inside source few

pub returns-clause-each : goal.returns-clause-each
returns-clause-each c goes k sources x few inside = each_does goes k sources x few inside
