use Rattle.njh_bisync.proofs.FedLaws.{reads_more}
use Rattle.njh_decode.proofs.decoding.decode.Goals as goal

pub returns-clause-grammar : goal.returns-clause-grammar
returns-clause-grammar c = λ seen frames reads.
    reads_more seen frames c.args.deframer.now c.args.piece.now reads

pub returns-in_err-taken-clause-grammar : goal.returns-in_err-taken-clause-grammar
returns-in_err-taken-clause-grammar c = λ seen frames reads.
    reads_more seen frames c.args.deframer.now c.args.piece.now reads
