-- What comes after a round, from what each of its parts leaves.
use Rattle.std.proofs.Common.{◌≡◌, ◌∙◌, ℕ, List, subst, sym}
use Rattle.std.specs.Prelude.{◌↔◌, Option, IsTrue, Result}
use Rattle.njh_hub.specs.WholeHub.{Part}
use Rattle.njh_lines.specs.LineStates.{line_settled, AreMade}
use Rattle.njh_lines.specs.Watching.{Watched}
use Rattle.njh_presence.specs.declared.presence.Presence.{Presence}
use Rattle.njh_presence.specs.declared.presence.PresenceNews.{PresenceNews}
use Rattle.njh_request.specs.declared.request.EndMoment.{EndMoment}
use Rattle.njh_service.specs.Bureaus.{Attended, IsClosed, IsConsoleServed, IsOver}
use Rattle.njh_service.specs.Presences.{IsLookedAt}
use Rattle.njh_table.specs.TableFile.{TableFile}

-- before the end of the round only what stands at the spool file's path was looked at
pub closed_by : {V F : Type 0} (gives : Option (List ℕ) → Result TableFile F → Type 0) (parts : List Part)
    (old before ended new : Attended V) (now : ℕ) (presence : Option Presence) (news : Option PresenceNews)
    → now ≡ old.exchange.now → presence ≡ old.presence → IsLookedAt now presence before.presence news
    → before.exchange ≡ old.exchange → before.console ≡ old.console → before.stop ≡ old.stop
    → ended.presence ≡ before.presence → ended.console ≡ before.console → ended.stop ≡ before.stop
    → AreMade (line_settled parts) before.exchange.lines ended.exchange.lines
    → (IsTrue ended.is_over ↔ IsOver before.stop parts ended.exchange.lines)
    → IsConsoleServed F gives parts ended new → new.is_over ≡ ended.is_over → IsClosed F gives parts old new
closed_by gives parts old before ended new now presence news its_now its_presence looked exchange console stop
    left_presence left_console left_stop made over served is_over = record {
      ended = ended;
      news = news;
      looked = subst (λ (its : Option Presence). IsLookedAt old.exchange.now old.presence its news) (sym left_presence)
          (subst (λ (its : Option Presence). IsLookedAt old.exchange.now its before.presence news) its_presence
          (subst (λ (its : ℕ). IsLookedAt its presence before.presence news) its_now looked));
      lines = subst (λ (its : Watched). AreMade (line_settled parts) its.lines ended.exchange.lines) exchange made;
      over = subst (λ (its : Option EndMoment). IsTrue ended.is_over ↔ IsOver its parts ended.exchange.lines) stop over;
      console = left_console ∙ console;
      stop = left_stop ∙ stop;
      served = served;
      is_over = is_over;
    }
