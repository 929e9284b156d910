-- The texts that are given are those that came.
use Rattle.std.proofs.Common.{◌≡◌, ℕ, List, [], ◌∷◌, ◌++◌, refl, ap, sym, ◌∙◌, append_assoc, append-nil, subst}
use Rattle.std.specs.Prelude.{Option, Some, None, Ok, Err}
use Rattle.std.specs.List.{cons_option}
use Rattle.std.proofs.lemmas.List.Elements.{filter_map-append}
use Rattle.njh_bisync.specs.Frames.{Received}
use Rattle.njh_bisync.specs.ByteSteps as line_steps
use Rattle.njh_tcp.specs.Carried.{Carried}
use Rattle.njh_tcp.specs.Hearing.{Outcome}
use Rattle.njh_tcp.specs.Reading.{Rest}
use Rattle.njh_tcp.specs.ByteSteps.{outcomes_after, rest_after}
use Rattle.njh_tcp.specs.Texts.{GivesTexts, text_of, texts_given}
use Rattle.njh_tcp.specs.declared.contact.Contact.{Contact}
use Rattle.njh_tcp.proofs.TextsLaws.{gives_none, gives_more, gives_on}
use Rattle.njh_link.specs.Talks.{talk_written}
use Rattle.njh_link.specs.Links.{LinkState, first_state, after_outcomes, with_given, coming_by, after_frames, with_written}
use Rattle.njh_link.specs.Acts.{LinkAct, Came, Gave, Acknowledged, Wrote, Went, KeptAlive, SignedOff}
use Rattle.njh_link.specs.Acts.{after_act, after_acts, came_by, came_in, given_of_outcomes, given_by, given_in, texts_of}

texts-outcomes : (outcomes : List Outcome) → texts_given outcomes ≡ texts_of (given_of_outcomes outcomes)
texts-outcomes [] = refl
texts-outcomes (Ok carried ∷ outcomes) = ap (cons_option (text_of (Some carried))) (texts-outcomes outcomes)
texts-outcomes (Err fault ∷ outcomes) = texts-outcomes outcomes

coming-outcomes : (outcomes : List Outcome) (s : LinkState) → (after_outcomes outcomes s).coming ≡ s.coming
coming-outcomes [] s = refl
coming-outcomes (Ok carried ∷ outcomes) s = coming-outcomes outcomes (with_given carried s)
coming-outcomes (Err fault ∷ outcomes) s = coming-outcomes outcomes s

gives_by : (bcb : Option ℕ) (seen : List ℕ) (texts : List (List ℕ)) (rest : Rest) → GivesTexts seen texts rest
    → GivesTexts seen texts (coming_by bcb rest)
gives_by None seen texts rest gives = gives
gives_by (Some bcb) seen texts rest gives = gives_on seen texts rest gives

gives-frames : (frames : List Received) (s : LinkState) (seen : List ℕ) (texts : List (List ℕ))
    → GivesTexts seen texts s.coming → GivesTexts seen texts (after_frames frames s).coming
gives-frames [] s seen texts gives = gives
gives-frames (frame ∷ frames) s seen texts gives =
    gives-frames frames (with_written frame s) seen texts
    (gives_by (talk_written frame s.talk).bcb seen texts s.coming gives)

-- nothing came, and nothing is given of it
same : (seen : List ℕ) (texts : List (List ℕ)) (rest : Rest) → GivesTexts seen texts rest
    → GivesTexts (seen ++ []) (texts ++ []) rest
same seen texts rest gives =
    subst (λ (t : List (List ℕ)). GivesTexts (seen ++ []) t rest) (sym (append-nil texts))
    (subst (λ (l : List ℕ). GivesTexts l texts rest) (sym (append-nil seen)) gives)

gives-step : (act : LinkAct) (s : LinkState) (seen : List ℕ) (texts : List (List ℕ)) → GivesTexts seen texts s.coming
    → GivesTexts (seen ++ came_by act) (texts ++ texts_of (given_by act s)) (after_act act s).coming
gives-step (Came bytes) s seen texts gives =
    let outcomes = outcomes_after s.coming bytes in
    let more = gives_more seen texts s.coming bytes gives in
    let named = subst (λ (t : List (List ℕ)). GivesTexts (seen ++ bytes) (texts ++ t) (rest_after s.coming bytes))
    (texts-outcomes outcomes) more in
    subst (λ (r : Rest). GivesTexts (seen ++ bytes) (texts ++ texts_of (given_of_outcomes outcomes)) r)
    (sym (coming-outcomes outcomes (record s { coming = rest_after s.coming bytes }))) named
gives-step (Gave count) s seen texts gives = same seen texts s.coming gives
gives-step Acknowledged s seen texts gives = same seen texts s.coming gives
gives-step (Wrote bytes) s seen texts gives =
    let frames = line_steps.frames_after s.written bytes in
    let then = record s { written = line_steps.rest_after s.written bytes } in
    same seen texts (after_frames frames then).coming (gives-frames frames then seen texts gives)
gives-step (Went count) s seen texts gives = same seen texts s.coming gives
gives-step KeptAlive s seen texts gives = same seen texts s.coming gives
gives-step SignedOff s seen texts gives = same seen texts s.coming gives

gives-acts : (acts : List LinkAct) (s : LinkState) (seen : List ℕ) (texts : List (List ℕ))
    → GivesTexts seen texts s.coming
    → GivesTexts (seen ++ came_in acts) (texts ++ texts_of (given_in acts s)) (after_acts acts s).coming
gives-acts [] s seen texts gives = same seen texts s.coming gives
gives-acts (act ∷ acts) s seen texts gives =
    let next = after_act act s in
    let later = gives-acts acts next (seen ++ came_by act) (texts ++ texts_of (given_by act s))
    (gives-step act s seen texts gives) in
    let bytes = append_assoc seen (came_by act) (came_in acts) in
    let those = append_assoc texts (texts_of (given_by act s)) (texts_of (given_in acts next))
    ∙ ap (λ (t : List (List ℕ)). texts ++ t)
    (sym (filter_map-append (λ (c : Carried). text_of (Some c)) (given_by act s) (given_in acts next))) in
    let last = (after_acts acts next).coming in
    subst (λ (t : List (List ℕ)). GivesTexts (seen ++ (came_by act ++ came_in acts)) t last) those
    (subst (λ (l : List ℕ). GivesTexts l
    ((texts ++ texts_of (given_by act s)) ++ texts_of (given_in acts next)) last) bytes later)

pub gives_from : (contact : Contact) (acts : List LinkAct)
    → GivesTexts (came_in acts) (texts_of (given_in acts (first_state contact)))
    (after_acts acts (first_state contact)).coming
gives_from contact acts = gives-acts acts (first_state contact) [] [] (gives_none contact)
