-- Whether the next block of a line would be sent.
use Rattle.njh_customer.proofs.Words
use Words.{ℕ, Bool, true, false, not, sym, ap, all_suspended, same_fcs, CustomerSpool, CustomerEntry, filling}
use Words.{own_fcs, CustomerLine, next_block, outlet_of, own_block}
use Rattle.{std.proofs.Common.{◌≡◌, ◌||◌, ◌∙◌}, njh_sched.specs.Having.has_items, njh_customer.specs.Having.has_next}
use Rattle.njh_customer.proofs.SendingMoves.{filled_kept}

module _ (entry : CustomerEntry) (l : ℕ) (s : CustomerSpool) (x : CustomerLine) (fcs : ℕ × ℕ) where
  -- whether a block of a function control sequence tells nothing
  abbrev tells_nothing : ℕ × ℕ → Bool
  tells_nothing own = all_suspended x.state.session.peer_fcs || same_fcs own x.state.session.own_fcs

  -- by the customer's own function control sequence
  by_own : fcs ≡ own_fcs s
      → has_next entry l s x ≡ (not (tells_nothing fcs) || has_items (next_block entry l s x).block.items)
  by_own is =
      ap (λ (own : ℕ × ℕ). not (tells_nothing own) || has_items (next_block entry l s x).block.items)
      ((filled_kept entry l (filling (own_block (own_fcs s) x.state) (outlet_of x) s)).fcs ∙ sym is)

  pub sent_by_fcs : fcs ≡ own_fcs s → tells_nothing fcs ≡ false → has_next entry l s x ≡ true
  sent_by_fcs is tells =
      by_own is ∙ ap (λ b. not b || has_items (next_block entry l s x).block.items) tells

  pub sent_by_records : (b : Bool) → fcs ≡ own_fcs s → tells_nothing fcs ≡ true
      → has_items (next_block entry l s x).block.items ≡ b → has_next entry l s x ≡ b
  sent_by_records b is tells has =
      by_own is ∙ ap (λ t. not t || has_items (next_block entry l s x).block.items) tells ∙ has
