use Rattle.std.proofs.Common.{◌≡◌, ◌++◌, ◌∙◌, arith}
use Rattle.std.proofs.lemmas.List.{take-append-drop}
use Rattle.njh_spool.proofs.ChainValues.{with_bytes-two}
use Rattle.njh_spool.proofs.store.BlockStore.overwrite.Goals as goal

pub returns : goal.returns
returns c =
    let first = c.split_at.result.0.now in
    let second = c.split_at.result.1.now in
    let both : first ++ second ≡ c.args.bytes =
    rw (c.split_at.ensures.front, c.split_at.ensures.back) (take-append-drop _ _) in
    c.put_rest.ensures
    ∙ with_bytes-two c.args.chain c.args.place first second c.args.bytes c.args.self.now c.put_part.new.self
    c.requires.chain c.put_part.ensures both (omega (arith, c.split_at.ensures.front_len, c.split_at.ensures.back_len))
