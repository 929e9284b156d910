-- What calls of `feed` and `reset` give, by the frames of the bytes that they take.
use Rattle.std.proofs.Common.{◌≡◌, ℕ, List, [], ◌∷◌, ◌++◌, take, refl, ap, sym, ◌∙◌, subst}
use Rattle.std.specs.Prelude.{map}
use Rattle.std.proofs.lemmas.List.{append_assoc}
use Rattle.njh_bisync.specs.Frames.{Received}
use Rattle.njh_bisync.specs.Reading.{Rest, Nothing, Reads, frame_list}
use Rattle.njh_bisync.specs.ByteSteps.{feed_outcome, frames_after, rest_after}
use Rattle.njh_bisync.specs.Calls.{Call, Feed, Reset, taken_by, given_by, left_by}
use Rattle.njh_bisync.proofs.FedLaws.{frames_after-append, rest_after-append, takes_front, reads_from, reads_frames}
use Rattle.njh_bisync.proofs.FedLaws.{reads_rest}

pub given_before : (rest : Rest) (before : List Call) (later : List Call)
    → given_by rest (before ++ Reset ∷ later) ≡ given_by rest before ++ given_by Nothing later
given_before rest [] later = refl
given_before rest (Feed piece ∷ before) later =
    let f = feed_outcome rest piece in
    ap (λ l. frame_list f.frame ++ l) (given_before f.rest before later)
    ∙ sym (append_assoc (frame_list f.frame) (given_by f.rest before) (given_by Nothing later))
given_before rest (Reset ∷ before) later = given_before Nothing before later

pub left_before : (rest : Rest) (before : List Call) (later : List Call)
    → left_by rest (before ++ Reset ∷ later) ≡ left_by Nothing later
left_before rest [] later = refl
left_before rest (Feed piece ∷ before) later = left_before (feed_outcome rest piece).rest before later
left_before rest (Reset ∷ before) later = left_before Nothing before later

-- the frames and the rest, by single bytes
pub given_of_taken : (rest : Rest) (pieces : List (List ℕ))
    → frames_after rest (taken_by rest (map Feed pieces)) ≡ given_by rest (map Feed pieces)
given_of_taken rest [] = refl
given_of_taken rest (piece ∷ pieces) =
    let f = feed_outcome rest piece in
    let front = takes_front rest piece in
    let later = taken_by f.rest (map Feed pieces) in
    frames_after-append rest (take f.taken piece) later
    ∙ (ap (λ l. l ++ frames_after (rest_after rest (take f.taken piece)) later) front.frames
    ∙ (ap (λ r. frame_list f.frame ++ frames_after r later) front.left
    ∙ ap (λ l. frame_list f.frame ++ l) (given_of_taken f.rest pieces)))

pub left_of_taken : (rest : Rest) (pieces : List (List ℕ))
    → rest_after rest (taken_by rest (map Feed pieces)) ≡ left_by rest (map Feed pieces)
left_of_taken rest [] = refl
left_of_taken rest (piece ∷ pieces) =
    let f = feed_outcome rest piece in
    let later = taken_by f.rest (map Feed pieces) in
    rest_after-append rest (take f.taken piece) later
    ∙ (ap (λ r. rest_after r later) (takes_front rest piece).left ∙ left_of_taken f.rest pieces)

pub reads_taken : (pieces : List (List ℕ))
    → Reads (taken_by Nothing (map Feed pieces)) (given_by Nothing (map Feed pieces))
    (left_by Nothing (map Feed pieces))
reads_taken pieces =
    let bytes = taken_by Nothing (map Feed pieces) in
    subst (λ (r : Rest). Reads bytes (given_by Nothing (map Feed pieces)) r) (left_of_taken Nothing pieces)
    (subst (λ (l : List Received). Reads bytes l (rest_after Nothing bytes)) (given_of_taken Nothing pieces)
    (reads_from bytes))

pub only_taken : (pieces : List (List ℕ)) (frames : List Received) (rest : Rest)
    → Reads (taken_by Nothing (map Feed pieces)) frames rest
    → (frames ≡ given_by Nothing (map Feed pieces)) × (rest ≡ left_by Nothing (map Feed pieces))
only_taken pieces frames rest reads =
    let bytes = taken_by Nothing (map Feed pieces) in (
      reads_frames bytes frames rest reads ∙ given_of_taken Nothing pieces,
      reads_rest bytes frames rest reads ∙ left_of_taken Nothing pieces,
    )

pub cut_anywhere : (pieces others : List (List ℕ))
    → taken_by Nothing (map Feed pieces) ≡ taken_by Nothing (map Feed others)
    → (given_by Nothing (map Feed pieces) ≡ given_by Nothing (map Feed others))
    × (left_by Nothing (map Feed pieces) ≡ left_by Nothing (map Feed others))
cut_anywhere pieces others same = (
  sym (given_of_taken Nothing pieces) ∙ (ap (frames_after Nothing) same ∙ given_of_taken Nothing others),
  sym (left_of_taken Nothing pieces) ∙ (ap (rest_after Nothing) same ∙ left_of_taken Nothing others),
)
