use Rattle.std.proofs.Common.{ℕ, List, [], ◌∷◌, ◌++◌, refl, sym, ap, subst, ◌∙◌, append_assoc}
use Rattle.std.specs.Io.KnownBytes.{Appends}
use Rattle.std.proofs.KnownBytes.{Appends-nil, Appends-trans}
use Rattle.hex.specs.Hex.{encode_lower}
use Rattle.njh_replay.specs.Printed.{frame_text}
use Rattle.njh_replay.proofs.PrintedParts.{beginning-after, frame-parts, on_err_of, on_err_then}
use Rattle.njh_replay.proofs.print.print_parts.Goals as goal

pub returns-in_err-write_bytes-clause-err : goal.returns-in_err-write_bytes-clause-err
returns-in_err-write_bytes-clause-err g c =
    let name = c.args.name.now in
    let frame = c.args.frame.now in
    let more = 32 ∷ (encode_lower frame ++ 10 ∷ []) in
    on_err_of c.from_residual.result _ (beginning-after _ _ _ [] c.as_bytes.result.now more (frame_text name frame)
    (Appends-nil _) c.in_err-write_bytes.ensures.err
    (ap (λ (text : List ℕ). text ++ more) c.as_bytes.ensures.value ∙ frame-parts name frame))

pub returns-in_err-write_bytes-2-clause-err : goal.returns-in_err-write_bytes-2-clause-err
returns-in_err-write_bytes-2-clause-err g c =
    let name = c.args.name.now in
    let frame = c.args.frame.now in
    let contents = g.W.Write.contents in
    let P : List ℕ → Type 0 = λ text. Appends (contents c.args.out.now) (contents c.write_bytes.new.out) text in
    on_err_of c.from_residual-in_err-write_bytes-2.result _
    (beginning-after _ _ _ name (32 ∷ []) (encode_lower frame ++ 10 ∷ []) (frame_text name frame)
    (subst P c.as_bytes.ensures.value c.in_ok-write_bytes.ensures.ok) c.in_err-write_bytes-2.ensures.err
    (frame-parts name frame))

pub returns-in_err-print_hex-clause-err : goal.returns-in_err-print_hex-clause-err
returns-in_err-print_hex-clause-err g c =
    let name = c.args.name.now in
    let frame = c.args.frame.now in
    let contents = g.W.Write.contents in
    let P : List ℕ → Type 0 = λ text. Appends (contents c.args.out.now) (contents c.write_bytes.new.out) text in
    let first = subst P c.as_bytes.ensures.value c.in_ok-write_bytes.ensures.ok in
    on_err_of c.from_residual-in_err-print_hex.result _
    (beginning-after _ _ _ (name ++ 32 ∷ []) (encode_lower frame) (10 ∷ []) (frame_text name frame)
    (Appends-trans _ _ _ name (32 ∷ []) first c.in_ok-write_bytes-2.ensures.ok) c.in_err-print_hex.ensures.err
    (sym (append_assoc (name ++ 32 ∷ []) (encode_lower frame) (10 ∷ []))))

pub returns-clause-err : goal.returns-clause-err
returns-clause-err g c =
    let name = c.args.name.now in
    let frame = c.args.frame.now in
    let contents = g.W.Write.contents in
    let P : List ℕ → Type 0 = λ text. Appends (contents c.args.out.now) (contents c.write_bytes.new.out) text in
    let first = subst P c.as_bytes.ensures.value c.in_ok-write_bytes.ensures.ok in
    let second = Appends-trans _ _ _ name (32 ∷ []) first c.in_ok-write_bytes-2.ensures.ok in
    let third = Appends-trans _ _ _ (name ++ 32 ∷ []) (encode_lower frame) second c.in_ok-print_hex.ensures.ok in
    on_err_then c.write_bytes-3.result _ _
    (λ begun. beginning-after _ _ _ ((name ++ 32 ∷ []) ++ encode_lower frame) (10 ∷ []) [] (frame_text name frame) third
    begun refl)
    c.write_bytes-3.ensures.err
