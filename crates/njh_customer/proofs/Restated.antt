-- What changes of a customer's files no more than states of whole ones.
use Rattle.njh_customer.proofs.Words
use Words.{ℕ, cond, List, [], All, map, Option, Some, None, refl, sym, subst, arith, Bool, not}
use Words.{get_or-map, length-map, All-map, All-filter, HasHeaders}
use Words.{CustomerSpool, WholeFile, with_state, without_partial, without_whole, State, Ready, Refused, CustomerEntry}
use Words.{has_lost_route, held_file, unrouted_held, without_all_open, without_open, all_ended, file_in, may_go_again}
use Words.{ready, spool_after_session, tried_again, after_completion, after_refusal, HaveHeaders, Receiver}
use Words.{Sender}
use Words.{limits_of}
use Rattle.{std.proofs.Common.{◌≡◌, ◌==◌, ◌∷◌, ◌∙◌}}
use Rattle.njh_customer.proofs.FileListLaws.{changed_where}
use Rattle.njh_stream.specs.declared.receiver.Receiver.TheVariants as receiver
use Rattle.njh_stream.specs.declared.sender.Sender.TheVariants as sender

-- Of a customer's files only states of whole ones have changed.
pub record IsRestated (s t : CustomerSpool) : Type 0 where
  pub whole : map ready t.whole ≡ map ready s.whole
  pub partial : t.partial ≡ s.partial
  pub limits : limits_of t ≡ limits_of s
  pub arrived : t.arrived ≡ s.arrived

pub as_it_is : (s : CustomerSpool) → IsRestated s s
as_it_is s = record { whole = refl; partial = refl; limits = refl; arrived = refl }

pub restated_then : (s t u : CustomerSpool) → IsRestated s t → IsRestated t u → IsRestated s u
restated_then s t u first second = record {
  whole = second.whole ∙ first.whole;
  partial = second.partial ∙ first.partial;
  limits = second.limits ∙ first.limits;
  arrived = second.arrived ∙ first.arrived;
}

-- whole files that pass a test change in their states
restated_where : (p : WholeFile → Bool) (change : WholeFile → WholeFile) (s : CustomerSpool)
    → ((f : WholeFile) → ready (change f) ≡ ready f)
    → IsRestated s (record s { whole = map (λ f. cond (p f) (change f) f) s.whole })
restated_where p change s same =
    record { whole = changed_where ready p change s.whole same; partial = refl; limits = refl; arrived = refl }

pub marked_restated : (n : ℕ) (state : State) (s : CustomerSpool) → IsRestated s (with_state n state s)
marked_restated n state s = restated_where (λ f. f.number == n) (λ f. record f { state = state }) s (λ f. refl)

pub held_restated : (entry : CustomerEntry) (s : CustomerSpool) → IsRestated s (unrouted_held entry s)
held_restated entry s = restated_where (has_lost_route entry) held_file s (λ f. refl)

-- the peer has refused a stream's file
pub refused_restated : (x : Sender) (s : CustomerSpool) → IsRestated s (after_refusal x s).spool
refused_restated (sender.Requested n) s = marked_restated n Refused s
refused_restated (sender.Sending n place) s = marked_restated n Refused s
refused_restated (sender.EofSent n) s = marked_restated n Refused s
refused_restated _ s = as_it_is s

-- or has it whole
pub completed_so : (I : CustomerSpool → Type 0) (s : CustomerSpool) → ((n : ℕ) → I (without_whole n s)) → I s
    → (x : Sender) → I (after_completion x s).spool
completed_so I s without so (sender.EofSent n) = without n
completed_so I s without so _ = so

-- ---- the end of a session

abbrev pub ended_where : Option ℕ → CustomerSpool → CustomerSpool
ended_where o s = elim o [ Some n ↦ with_state n Ready s | None ↦ s ]

one_ended : (x : Sender) (s : CustomerSpool) → IsRestated s (spool_after_session x s)
one_ended x s = elim (file_in x) as (λ o. IsRestated s (ended_where o s)) [
  | None ↦ as_it_is s
  | Some n ↦ marked_restated n Ready s
]

all_restated : (xs : List Sender) (s : CustomerSpool) → IsRestated s (all_ended xs s)
all_restated [] s = as_it_is s
all_restated (x ∷ xs) s =
    let t = spool_after_session x s in
    restated_then s t (all_ended xs t) (one_ended x s) (all_restated xs t)

-- the files that were being sent, and those that go again
pub ended_restated : (entry : CustomerEntry) (l : ℕ) (xs : List Sender) (s : CustomerSpool)
    → IsRestated s (tried_again entry l (all_ended xs s))
ended_restated entry l xs s =
    let t = all_ended xs s in
    restated_then s t (tried_again entry l t) (all_restated xs s)
    (restated_where (may_go_again entry l) ready t (λ f. refl))

-- the files that came in
pub open_so : (I : CustomerSpool → Type 0) → ((n : ℕ) (s : CustomerSpool) → I s → I (without_partial n s))
    → (rs : List Receiver) (s : CustomerSpool) → I s → I (without_all_open rs s)
open_so I without [] s so = so
open_so I without (r ∷ rs) s so = open_so I without rs (without_open r s) (one r)
  where
    one : (r : Receiver) → I (without_open r s)
    one (receiver.Open n progress) = without n s so
    one _ = so

-- all but the partial files is the same
pub record IsSameButPartial (s t : CustomerSpool) : Type 0 where
  pub whole : t.whole ≡ s.whole
  pub limits : limits_of t ≡ limits_of s
  pub arrived : t.arrived ≡ s.arrived

pub without_open_same : (rs : List Receiver) (s : CustomerSpool) → IsSameButPartial s (without_all_open rs s)
without_open_same rs s =
    open_so (IsSameButPartial s) (λ n t so. record { whole = so.whole; limits = so.limits; arrived = so.arrived }) rs s
    (record { whole = refl; limits = refl; arrived = refl })

-- ---- headers

-- The partial files, the quota and the limit of files are the same, and whole files whose headers read still have them.
pub record IsHarmless (s t : CustomerSpool) : Type 0 where
  pub partial : t.partial ≡ s.partial
  pub limits : limits_of t ≡ limits_of s
  pub headers : HaveHeaders s.whole → HaveHeaders t.whole

abbrev Reads : WholeFile → Type 0
Reads f = HasHeaders f.kind f.records

pub restated_harmless : (s t : CustomerSpool) → IsRestated s t → IsHarmless s t
restated_harmless s t restated = record { partial = restated.partial; limits = restated.limits; headers = headers }
  where
    headers : HaveHeaders s.whole → HaveHeaders t.whole
    headers have k d inside = let now : All Reads (map ready t.whole) =
        subst (All Reads) (sym restated.whole) (All-map Reads ready s.whole have) in
        subst Reads (get_or-map ready t.whole k d) (now k (ready d) (omega (arith, length-map t.whole ready)))

pub completed_harmless : (x : Sender) (s : CustomerSpool) → IsHarmless s (after_completion x s).spool
completed_harmless x s = completed_so (IsHarmless s) s
    (λ n. record { partial = refl; limits = refl; headers = All-filter (λ f. not (f.number == n)) Reads s.whole })
    (restated_harmless s s (as_it_is s)) x
