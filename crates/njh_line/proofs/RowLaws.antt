-- The row of a good block: the count rule in each of a session's cells.
use Rattle.std.proofs.Common.{◌≡◌, ◌∙◌, ℕ, ◌+◌, true, false, refl}
use Rattle.njh_line.specs.declared.Phase.{Phase}
use Rattle.njh_line.specs.declared.Phase.TheVariants.{Down, Calling, Answered, SentI, Up}
use Rattle.njh_line.specs.declared.config.Config.{Config}
use Rattle.njh_line.specs.declared.counts.Counted.{Counted}
use Rattle.njh_line.specs.declared.counts.Counted.TheVariants.{Acts, Repeats, OutOfSequence}
use Rattle.njh_line.specs.declared.ending.SessionEnd.TheVariants as why
use Rattle.njh_line.specs.declared.session.Session.{Session}
use Rattle.njh_line.specs.declared.table.SessionOutcome.{SessionOutcome}
use Rattle.njh_line.specs.declared.verdict.LineReply.TheVariants.{Sequence}
use Rattle.njh_line.specs.Counts.{after_acting, count_verdict, expected_count}
use Rattle.njh_line.specs.LineTable.{Block, table_outcome, acting, cell, end_with, try_again}
use Rattle.njh_line.specs.Openings.{First}
use Rattle.njh_line.specs.Sessions.{in_session}
use Rattle.njh_line.proofs.CountLaws.{clash}

-- The count rule before the cells of a session is the count rule in each.
in_row : (p : Phase) (k : Counted) (before before' down calling answered sent_i up again sequence : SessionOutcome)
    → in_session p ≡ true →
    elim k [ Acts ↦ cell p before before' answered sent_i up | Repeats ↦ again | OutOfSequence ↦ sequence ]
    ≡ cell p down calling
    (elim k [ Acts ↦ answered | Repeats ↦ again | OutOfSequence ↦ sequence ])
    (elim k [ Acts ↦ sent_i | Repeats ↦ again | OutOfSequence ↦ sequence ])
    (elim k [ Acts ↦ up | Repeats ↦ again | OutOfSequence ↦ sequence ])
in_row Down k before before' down calling answered sent_i up again sequence e = clash false e refl
in_row Calling k before before' down calling answered sent_i up again sequence e = clash false e refl
in_row Answered k before before' down calling answered sent_i up again sequence e = refl
in_row SentI k before before' down calling answered sent_i up again sequence e = refl
in_row Up k before before' down calling answered sent_i up again sequence e = refl

where_acts : (k : Counted) (x y z : SessionOutcome) → k ≡ Acts
    → x ≡ elim k [ Acts ↦ x | Repeats ↦ y | OutOfSequence ↦ z ]
where_acts Acts x y z e = refl
where_acts Repeats x y z e = absurd (cc)
where_acts OutOfSequence x y z e = absurd (cc)

where_repeats : (k : Counted) (x y z : SessionOutcome) → k ≡ Repeats
    → y ≡ elim k [ Acts ↦ x | Repeats ↦ y | OutOfSequence ↦ z ]
where_repeats Acts x y z e = absurd (cc)
where_repeats Repeats x y z e = refl
where_repeats OutOfSequence x y z e = absurd (cc)

where_out_of_sequence : (k : Counted) (x y z : SessionOutcome) → k ≡ OutOfSequence
    → z ≡ elim k [ Acts ↦ x | Repeats ↦ y | OutOfSequence ↦ z ]
where_out_of_sequence Acts x y z e = absurd (cc)
where_out_of_sequence Repeats x y z e = absurd (cc)
where_out_of_sequence OutOfSequence x y z e = refl

pub acts : (line : Config) (bcb : ℕ) (fcs : ℕ × ℕ) (first : First) (s : Session) → in_session s.phase ≡ true →
    count_verdict s.last_bcb bcb ≡ Acts → acting line first (after_acting bcb fcs s) ≡ table_outcome line
    (Block bcb fcs first) s
unfolding table_outcome
acts line bcb fcs first s e f =
    let k = count_verdict s.last_bcb bcb in
    where_acts k _ (try_again s) (end_with why.OutOfSequence (Sequence (0x80 + expected_count s.last_bcb)) s) f
    ∙ in_row s.phase k _ _ _ _ _ _ _ _ _ e

pub repeats : (line : Config) (bcb : ℕ) (fcs : ℕ × ℕ) (first : First) (s : Session) → in_session s.phase ≡ true →
    count_verdict s.last_bcb bcb ≡ Repeats → try_again s ≡ table_outcome line (Block bcb fcs first) s
unfolding table_outcome
repeats line bcb fcs first s e f =
    let k = count_verdict s.last_bcb bcb in
    where_repeats k (acting line first (after_acting bcb fcs s)) _
    (end_with why.OutOfSequence (Sequence (0x80 + expected_count s.last_bcb)) s) f
    ∙ in_row s.phase k _ _ _ _ _ _ _ _ _ e

pub is_out_of_sequence : (line : Config) (bcb : ℕ) (fcs : ℕ × ℕ) (first : First) (s : Session)
    → in_session s.phase ≡ true →
    count_verdict s.last_bcb bcb ≡ OutOfSequence
    → end_with why.OutOfSequence (Sequence (0x80 + expected_count s.last_bcb)) s ≡ table_outcome line (Block bcb fcs first) s
unfolding table_outcome
is_out_of_sequence line bcb fcs first s e f =
    let k = count_verdict s.last_bcb bcb in
    where_out_of_sequence k (acting line first (after_acting bcb fcs s)) (try_again s) _ f
    ∙ in_row s.phase k _ _ _ _ _ _ _ _ _ e
