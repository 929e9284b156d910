use Rattle.std.proofs.Common.{ℕ, List, ◌++◌, length, replicate, drop, ap, ◌∙◌}
use Rattle.std.proofs.lemmas.List.{drop-replicate}
use Rattle.njh_spool.proofs.store.spool_block.SpoolBlock.of.Goals as goal

pub returns : goal.returns
returns c =
    ap (λ (bytes : List ℕ). record { bytes = bytes; next = 0 })
    (ap (λ (xs : List ℕ). xs ++ drop (length c.args.bytes.now) (replicate {A = ℕ} 252 0))
    c.copy_from_slice.ensures.after
    ∙ ap (λ (xs : List ℕ). c.args.bytes.now ++ xs) (drop-replicate {X = ℕ} (length c.args.bytes.now) 252 0))
