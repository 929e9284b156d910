-- A customer's lines where none is up: they are those of a customer that was just opened, but for what isn't compared.
use Rattle.njh_keeper.proofs.Words
use Words.{◌≡◌, ℕ, zero, suc, ◌<◌, false, List, [], ◌∷◌, length, map, get_or, replicate, refl, sym, ap, ◌∙◌, arith}
use Words.{get_or-map, map-map, Nothing, CustomerEntry, LineEntry, Down, is_up, fresh, CustomerLine, config_of}
use Words.{idle_line, line_at, no_customer_line, IsIdle, phase_of, rest_at, bare, length-replicate, length-map}
use Rattle.{njh_bisync.specs.Reading.Rest, njh_table.specs.declared.Role.TheVariants.Answer}
use Rattle.{njh_line.specs.declared.config.Config.Config, njh_customer.specs.Customer.sender_at}
use Rattle.std.proofs.lemmas.List.{ext_get_or, get_or-replicate}
use Rattle.njh_stream.specs.declared.receiver.Receiver.TheVariants as receiver
use Rattle.njh_stream.specs.declared.sender.Sender.TheVariants as sender

-- a list of so many that holds one thing alone
all_copies : {A : Type 0} (n : ℕ) (a : A) (xs : List A) → length xs ≡ n → ((k : ℕ) → get_or xs k a ≡ a)
    → xs ≡ replicate n a
all_copies n a xs long each = ext_get_or a xs (replicate n a) (long ∙ sym (length-replicate n a))
    (λ k low. each k ∙ sym (get_or-replicate n k a a (omega (arith, low, long))))

-- two lists of as many rests are the same where nothing has come on either
pub same_rests : (rs ss : List Rest) → length rs ≡ length ss → ((l : ℕ) → rest_at l rs ≡ Nothing)
    → ((l : ℕ) → rest_at l ss ≡ Nothing) → rs ≡ ss
same_rests rs ss same none other = ext_get_or Nothing rs ss same (λ l low. none l ∙ sym (other l))

pub rest_past : (rests : List Rest) (l : ℕ) → (l < length rests → rest_at l rests ≡ Nothing) → rest_at l rests ≡ Nothing
rest_past [] l there = refl
rest_past (r ∷ rs) zero there = there (omega arith)
rest_past (r ∷ rs) (suc l) there = rest_past rs l (λ h. there (omega (arith, h)))

pub no_rests : (lines : List LineEntry) (l : ℕ) → rest_at l (map (λ line. Nothing) lines) ≡ Nothing
no_rests [] l = refl
no_rests (x ∷ xs) zero = refl
no_rests (x ∷ xs) (suc l) = no_rests xs l

-- ---- lines

-- a line of eight streams of each kind that is set up so, and is down and idle
pub record IsLikeFresh (config : Config) (streams : ℕ) (x : CustomerLine) : Type 0 where
  pub config_is : x.state.config ≡ config
  pub streams_are : x.streams ≡ streams
  pub down : phase_of x ≡ Down
  pub idle : IsIdle x
  pub eight_to : length x.receivers ≡ 8
  pub eight_from : length x.senders ≡ 8

bare_of : (config : Config) (streams : ℕ) (x : CustomerLine) → IsLikeFresh config streams x
    → bare x ≡ bare (idle_line config streams)
bare_of config streams x like =
    let to = all_copies 8 receiver.Idle x.receivers like.eight_to like.idle.receivers in
    let from = all_copies 8 sender.Idle x.senders like.eight_from like.idle.senders in
    λ i. record {
      state = record {
        config = like.config_is i;
        session = record fresh { phase = like.down i };
        last = [];
        answers = like.idle.answers i;
        messages = [];
      };
      streams = like.streams_are i;
      receivers = to i;
      notices = [];
      senders = from i;
      served = like.idle.served i;
    }

same_maps : {A B C : Type 0} (f : A → C) (g : B → C) (xs : List A) (ys : List B) (a : A) (b : B)
    → length xs ≡ length ys → ((l : ℕ) → l < length xs → f (get_or xs l a) ≡ g (get_or ys l b)) → map f xs ≡ map g ys
same_maps f g xs ys a b long each =
    ext_get_or (f a) (map f xs) (map g ys) (length-map xs f ∙ long ∙ sym (length-map ys g)) (λ l within.
    let low : l < length xs = omega (arith, within, length-map xs f) in
    get_or-map f xs l a (f a) low ∙ each l low ∙ sym (get_or-map g ys l b (f a) (omega (arith, low, long))))

abbrev pub opened_line : CustomerEntry → LineEntry → CustomerLine
opened_line entry line = idle_line (config_of entry line) line.streams

pub fresh_down : (entry : CustomerEntry) (lines : List LineEntry) (l : ℕ) → l < length (map (opened_line entry) lines)
    → phase_of (line_at l (map (opened_line entry) lines)) ≡ Down
fresh_down entry [] l there = absurd (omega (arith, there))
fresh_down entry (x ∷ xs) zero there = refl
fresh_down entry (x ∷ xs) (suc l) there = fresh_down entry xs l (omega (arith, there))

pub senders_idle : (xs : List CustomerLine) → ((l : ℕ) → l < length xs → IsIdle (line_at l xs)) → (l k : ℕ)
    → sender_at k (line_at l xs) ≡ sender.Idle
senders_idle [] idle l k = refl
senders_idle (x ∷ xs) idle zero k = (idle 0 (omega arith)).senders k
senders_idle (x ∷ xs) idle (suc l) k = senders_idle xs (λ m h. idle (suc m) (omega (arith, h))) l k

abbrev no_line : LineEntry
no_line = record { node = []; role = Answer; block = 0; streams = 0; password = [] }

abbrev pub set_up_of : CustomerLine → Config × ℕ
set_up_of x = (x.state.config, x.streams)

abbrev pub set_up_by : CustomerEntry → LineEntry → Config × ℕ
set_up_by entry line = (config_of entry line, line.streams)

module _ (xs : List CustomerLine) (lines : List LineEntry) (long : length xs ≡ length lines)
    (down : (l : ℕ) → l < length xs → phase_of (line_at l xs) ≡ Down) where
  -- no mark is on
  pub marks_off : map (λ (x : CustomerLine). is_up x.state.session.phase) xs ≡ map (λ _. false) lines
  marks_off = same_maps (λ (x : CustomerLine). is_up x.state.session.phase) (λ (line : LineEntry). false) xs lines
      no_customer_line no_line long (λ l low. ap is_up (down l low))

  module _ (entry : CustomerEntry) (set_up : map set_up_of xs ≡ map (set_up_by entry) lines)
      (idle : (l : ℕ) → l < length xs → IsIdle (line_at l xs))
      (to : (l : ℕ) → l < length xs → length (line_at l xs).receivers ≡ 8)
      (from : (l : ℕ) → l < length xs → length (line_at l xs).senders ≡ 8) where
    like : (l : ℕ) → l < length xs → let line = get_or lines l no_line in
        IsLikeFresh (config_of entry line) line.streams (line_at l xs)
    like l low =
        let here : set_up_of (line_at l xs) ≡ set_up_by entry (get_or lines l no_line) =
        sym (get_or-map set_up_of xs l no_customer_line (set_up_of no_customer_line) low)
        ∙ ap (λ (ps : List (Config × ℕ)). get_or ps l (set_up_of no_customer_line)) set_up
        ∙ get_or-map (set_up_by entry) lines l no_line (set_up_of no_customer_line) (omega (arith, low)) in
        record {
          config_is = ap (λ (p : Config × ℕ). p.0) here;
          streams_are = ap (λ (p : Config × ℕ). p.1) here;
          down = down l low;
          idle = idle l low;
          eight_to = to l low;
          eight_from = from l low;
        }

    pub bare_lines : map bare xs ≡ map bare (map (opened_line entry) lines)
    bare_lines = same_maps bare (λ (line : LineEntry). bare (opened_line entry line)) xs lines no_customer_line no_line
        long (λ l low. let line = get_or lines l no_line in
        bare_of (config_of entry line) line.streams (line_at l xs) (like l low))
        ∙ sym (map-map bare (opened_line entry) lines)
