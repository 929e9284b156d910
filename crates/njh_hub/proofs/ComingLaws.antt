-- The files that come on a line's streams to the hub are partial.
use Rattle.std.proofs.Common.{ℕ, zero, suc, List, [], ◌∷◌, refl, subst, arith}
use Rattle.std.specs.Prelude.{◌≡◌, slice_index_or}
use Rattle.std.specs.List.{AllByRecursion}
use Rattle.njh_record.specs.declared.Kind.{Kind}
use Rattle.njh_spool.specs.CustomerSpool.{CustomerSpool, empty_spool}
use Rattle.njh_spool.specs.Spools.{IsSound}
use Rattle.njh_stream.specs.declared.receiver.Receiver.{Receiver}
use Rattle.njh_stream.specs.declared.receiver.Receiver.TheVariants.{Idle, Open, Draining}
use Rattle.njh_stream.specs.WholeFiles.{HaveHeaders}
use Rattle.njh_stream.specs.code.Agreement.{Agrees}
use Rattle.njh_stream.proofs.ReceivingLaws.{partial_records_in}
use Rattle.njh_customer.specs.Customer.{CustomerLine, line_at}
use Rattle.njh_customer.specs.code.Coherence.{streams_to_hub}
use Rattle.njh_hub.specs.Views.{IsPartialOn}

is_partial_on : (kind : Kind) (r : Receiver) (s : CustomerSpool) → IsSound s → Agrees kind r s → IsPartialOn s r
is_partial_on kind Idle s sound agrees = tt
is_partial_on kind (Open n progress) s sound agrees = partial_records_in kind progress n s sound agrees
is_partial_on kind Draining s sound agrees = tt

all_at_places : {X : Type 0} (P : X → Type 0) (none : X) (xs : List X) → ((k : ℕ) → P (slice_index_or xs k none))
    → AllByRecursion P xs
all_at_places P none [] each = tt
all_at_places P none (x ∷ xs) each = (each 0, all_at_places P none xs (λ k. each (suc k)))

receivers_at : (lines : List CustomerLine) (l : ℕ)
    → slice_index_or (streams_to_hub lines) l [] ≡ (line_at l lines).receivers
receivers_at [] l = refl
receivers_at (line ∷ lines) zero = refl
receivers_at (line ∷ lines) (suc l) = receivers_at lines l

pub all_are_partial : (lines : List CustomerLine) (s : CustomerSpool) (l : ℕ) (kind : ℕ → Kind) → IsSound s
    → ((k : ℕ) → Agrees (kind k) (slice_index_or (slice_index_or (streams_to_hub lines) l []) k Idle) s)
    → AllByRecursion (IsPartialOn s) (line_at l lines).receivers
all_are_partial lines s l kind sound agree =
    subst (AllByRecursion (IsPartialOn s)) (receivers_at lines l)
    (all_at_places (IsPartialOn s) Idle (slice_index_or (streams_to_hub lines) l [])
    (λ k. is_partial_on (kind k) (slice_index_or (slice_index_or (streams_to_hub lines) l []) k Idle) s sound
    (agree k)))

-- ---- a customer that isn't there

pub no_part_is_sound : IsSound (empty_spool 0 0)
no_part_is_sound = record {
  within_quota = omega arith;
  within_limit = omega arith;
  apart = λ n. omega arith;
  numbered = λ n past. refl;
  quota_limit = omega arith;
  files_limit = omega arith;
}

pub no_headers_are_bad : HaveHeaders []
no_headers_are_bad i d there = absurd (omega (arith, there))
