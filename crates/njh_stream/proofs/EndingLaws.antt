-- What the end of a session leaves, stream by stream.
use Rattle.std.proofs.Common.{◌≡◌, ◌<◌, ℕ, zero, suc, List, [], ◌∷◌, ◌++◌, length, take, drop, set, get_or, replicate}
use Rattle.std.proofs.Common.{slice_set, refl, ap, ap₂, ◌∙◌, not-suc-le-zero, le_of_suc-le-suc, take-suc}
use Rattle.std.proofs.lemmas.List.{set-set, get_or-set_same}
use Rattle.njh_spool.specs.Spools.{spool_at, no_spool}
use Rattle.njh_spool.specs.CustomerSpool.{CustomerSpool}
use Rattle.njh_stream.specs.declared.receiver.Receiver.{Receiver}
use Rattle.njh_stream.specs.declared.sender.Sender.{Sender}
use Rattle.njh_stream.specs.Receiving.{without_open, without_all_open}
use Rattle.njh_stream.specs.Sending.{spool_after_session, all_ended}

pub without_one_more : (rs : List Receiver) (r : Receiver) (s : CustomerSpool)
    → without_all_open (rs ++ r ∷ []) s ≡ without_open r (without_all_open rs s)
without_one_more [] r s = refl
without_one_more (x ∷ xs) r s = without_one_more xs r (without_open x s)

pub one_more_ended : (xs : List Sender) (x : Sender) (s : CustomerSpool)
    → all_ended (xs ++ x ∷ []) s ≡ spool_after_session x (all_ended xs s)
one_more_ended [] x s = refl
one_more_ended (y ∷ ys) x s = one_more_ended ys x (spool_after_session y s)

-- a customer's spool that moves twice
pub moved_twice :
    (old now new : List CustomerSpool) (c : ℕ) (x : CustomerSpool) (f : CustomerSpool → CustomerSpool) → c < length old
    → now ≡ slice_set old c x
    → new ≡ slice_set now c (f (spool_at c now)) → new ≡ slice_set old c (f x)
moved_twice old now new c x f range now_is new_is =
    new_is
    ∙ ap₂ (λ m s. slice_set m c (f s)) now_is (ap (spool_at c) now_is ∙ get_or-set_same old c x no_spool range)
    ∙ set-set old c x (f x)

-- one member more of a list has become x
pub become : {A : Type 0} (x : A) (i : ℕ) (old : List A) → i < length old
    → set (replicate i x ++ drop i old) i x ≡ replicate (suc i) x ++ drop (suc i) old
become x zero [] h = absurd (not-suc-le-zero h)
become x zero (o ∷ os) h = refl
become x (suc i) [] h = absurd (not-suc-le-zero h)
become x (suc i) (o ∷ os) h = ap (λ rest. x ∷ rest) (become x i os (le_of_suc-le-suc h))

-- the member behind those that have become x
pub next_is : {A : Type 0} (x d : A) (i : ℕ) (old : List A) → i < length old
    → get_or (replicate i x ++ drop i old) i d ≡ get_or old i d
next_is x d zero [] h = absurd (not-suc-le-zero h)
next_is x d zero (o ∷ os) h = refl
next_is x d (suc i) [] h = absurd (not-suc-le-zero h)
next_is x d (suc i) (o ∷ os) h = next_is x d i os (le_of_suc-le-suc h)

pub open_so_far : (i : ℕ) (old : List Receiver) (d : Receiver) (s : CustomerSpool) → i < length old
    → without_all_open (take (suc i) old) s ≡ without_open (get_or old i d) (without_all_open (take i old) s)
open_so_far i old d s h = ap (λ rs. without_all_open rs s) (take-suc old i d h)
    ∙ without_one_more (take i old) (get_or old i d) s

pub ended_so_far : (i : ℕ) (old : List Sender) (d : Sender) (s : CustomerSpool) → i < length old
    → all_ended (take (suc i) old) s ≡ spool_after_session (get_or old i d) (all_ended (take i old) s)
ended_so_far i old d s h = ap (λ xs. all_ended xs s) (take-suc old i d h)
    ∙ one_more_ended (take i old) (get_or old i d) s
