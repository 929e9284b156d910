use Rattle.std.proofs.Common.{◌⊎◌, OnErr, subst, sym}
use Rattle.std.specs.Io.KnownBytes.{Keeps}
use Rattle.njh_arguments.specs.declared.arguments.Request.{Request}
use Rattle.njh_program.specs.ProgramOutcome.{IsDoneInPart}
use Rattle.njh_program.proofs.requests.carry_out_request.Goals as goal

-- what was listed of the copied files is what the request asks for
pub returns-in-Copy-clause-begun : goal.returns-in-Copy-clause-begun
returns-in-Copy-clause-begun g c =
    let old = g.W.Write.contents c.args.out.now in
    let new = g.W.Write.contents c.copy_files.new.out in
    let left = g.R.Read.remaining c.args.script.now in
    let P : Request → Type 0 =
    λ request. OnErr c.copy_files.result (Keeps old new ⊎ IsDoneInPart request left old new) in
    subst P (sym c.in-Copy.is) c.copy_files.ensures.begun
