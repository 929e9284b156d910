-- A piece worked off step by step is the run over its bytes; and one such step, frame by frame.
use Rattle.njh_customer.proofs.Words
use Words.{ℕ, suc, List, [], length, take, set, refl, ap, sym, arith, append_assoc, set-set, get_or-set_same}
use Words.{length-set, set-get_or, Rest, Nothing, Customer, byte_step, Taking, or_later, take_step, LineRun, bytes_run}
use Words.{sent_on, sent_first, CutsAreLike, FirstBytesSendFirst, NoBytesDoNothing, StepsFollowBytes, Part, rest_on}
use Words.{OwnEvent, Run, alone_run, drop, Option, Some, None, add_assoc, rest_step, stop_or, Fed, feed_outcome}
use Words.{acted_on, later_by}
use Rattle.{std.proofs.Common.{◌≡◌, ◌+◌, ◌<◌, ◌∷◌, ◌++◌, ◌∙◌, ◌≤◌}, njh_bisync.specs.Frames.Received}
use Rattle.njh_bisync.proofs.FedLaws.{goes_on}

sent_first-assoc : (a b : List (ℕ × List ℕ)) (r : LineRun) → sent_first a (sent_first b r) ≡ sent_first (a ++ b) r
sent_first-assoc a b r = ap (λ (s : List (ℕ × List ℕ)). record r { sent = s }) (sym (append_assoc a b r.sent))

-- a run over bytes and more is the run over the bytes, and then the run over the rest
pub bytes_run-append : (rest : Rest) (c : Customer) (l : ℕ) (a b : List ℕ) →
    bytes_run rest c l (a ++ b) ≡ sent_first (bytes_run rest c l a).sent
    (bytes_run (bytes_run rest c l a).rest (bytes_run rest c l a).after l b)
bytes_run-append rest c l [] b = refl
bytes_run-append rest c l (byte ∷ a) b =
    let x = byte_step rest c l byte in
    let r = bytes_run x.rest x.after l a in
    ap (sent_first (sent_on l x.frame)) (bytes_run-append x.rest x.after l a b)
    ∙ sent_first-assoc (sent_on l x.frame) r.sent (bytes_run r.rest r.after l b)

take-one_more : (n byte : ℕ) (bytes : List ℕ) → take (1 + n) (byte ∷ bytes) ≡ byte ∷ take n bytes
take-one_more n byte bytes = let e : 1 + n ≡ suc n = omega arith in rw e refl

-- a step as a run over the bytes that it takes
abbrev run_by : ℕ → Taking → LineRun
run_by l t = record { rest = t.rest; after = t.after; sent = sent_on l t.frame }

after_byte : (go : List ℕ → LineRun) (byte : ℕ) (rest : Rest) (after : Customer) (frame : List ℕ) (l : ℕ)
    (bytes : List ℕ) (later : Taking) →
    ((more : List ℕ) → go (byte ∷ more) ≡ sent_first (sent_on l frame) (bytes_run rest after l more)) →
    bytes_run rest after l (take later.taken bytes) ≡ run_by l later →
    go (take (or_later 1 rest (record { after = after; frame = frame }) later).taken (byte ∷ bytes))
    ≡ run_by l (or_later 1 rest (record { after = after; frame = frame }) later)
after_byte go byte rest after [] l bytes later opens same = ap go (take-one_more later.taken byte bytes)
    ∙ opens (take later.taken bytes) ∙ same
after_byte go byte rest after (b ∷ frame) l bytes later opens same = opens []

take_step-run : (rest : Rest) (c : Customer) (l : ℕ) (piece : List ℕ) →
    bytes_run rest c l (take (take_step rest c l piece).taken piece) ≡ run_by l (take_step rest c l piece)
take_step-run rest c l [] = refl
take_step-run rest c l (byte ∷ bytes) =
    let x = byte_step rest c l byte in
    after_byte (bytes_run rest c l) byte x.rest x.after x.frame l bytes (take_step x.rest x.after l bytes)
    (λ more. refl) (take_step-run x.rest x.after l bytes)

-- a part whose line l has read some bytes
abbrev read_part : Part → ℕ → LineRun → Part
read_part p l r = record { rests = set p.rests l r.rest; customer = r.after }

abbrev run_with : Part → List (ℕ × List ℕ) → Run
run_with after sent = record { after = after; sent = sent }

-- a line that read some bytes and then more has read the last
read_part-twice : (p : Part) (l : ℕ) (r q : LineRun) → read_part p l q ≡ read_part (read_part p l r) l q
read_part-twice p l r q = ap (λ (rests : List Rest). record { rests = rests; customer = q.after })
    (sym (set-set p.rests l r.rest q.rest))

-- no bytes change nothing
pub no_bytes_do_nothing : NoBytesDoNothing
no_bytes_do_nothing p l = ap (λ (rests : List Rest). run_with (record p { rests = rests }) [])
    (set-get_or p.rests l Nothing)

-- bytes, and then the run over more
bytes_run-more : (p : Part) (l : ℕ) (front more : List ℕ) → l < length p.rests →
    (let r = bytes_run (rest_on l p) p.customer l front in
    bytes_run (rest_on l p) p.customer l (front ++ more) ≡ sent_first r.sent
    (bytes_run (rest_on l (read_part p l r)) r.after l more))
bytes_run-more p l front more within =
    let r = bytes_run (rest_on l p) p.customer l front in
    let rest_is : rest_on l (read_part p l r) ≡ r.rest = get_or-set_same p.rests l r.rest Nothing within in
    bytes_run-append (rest_on l p) p.customer l front more
    ∙ ap (λ (x : Rest). sent_first r.sent (bytes_run x r.after l more)) (sym rest_is)

pub steps_follow_bytes : StepsFollowBytes
steps_follow_bytes p l front left within =
    let r = bytes_run (rest_on l p) p.customer l front in
    let q = read_part p l r in
    let t = take_step (rest_on l q) q.customer l left in
    ap (λ (x : LineRun). run_with (read_part p l x) x.sent)
    (bytes_run-more p l front (take t.taken left) (omega (arith, length-set p.rests l r.rest))
    ∙ ap (sent_first r.sent) (take_step-run (rest_on l q) q.customer l left))
    ∙ ap (λ (y : Part). run_with y (r.sent ++ sent_on l t.frame)) (read_part-twice p l r (run_by l t))

-- a run goes on from a part, after frames that were sent before
abbrev later_run : List (ℕ × List ℕ) → Part → List OwnEvent → Run
later_run sent p events = run_with (alone_run p events).after (sent ++ (alone_run p events).sent)

later_run-twice : (a b : List (ℕ × List ℕ)) (p : Part) (events : List OwnEvent) →
    later_run (a ++ b) p events ≡ run_with (alone_run p events).after (a ++ (b ++ (alone_run p events).sent))
later_run-twice a b p events = ap (run_with (alone_run p events).after) (append_assoc a b (alone_run p events).sent)

pub cuts_are_like : CutsAreLike
cuts_are_like p l front back events within =
    let r = bytes_run (rest_on l p) p.customer l front in
    let q = read_part p l r in
    let s = bytes_run (rest_on l q) q.customer l back in
    ap (λ (x : LineRun). later_run x.sent (read_part p l x) events) (bytes_run-more p l front back within)
    ∙ later_run-twice r.sent s.sent (read_part p l s) events
    ∙ ap (λ (y : Part). run_with (alone_run y events).after (r.sent ++ (s.sent ++ (alone_run y events).sent)))
    (read_part-twice p l r s)

pub first_bytes_send_first : FirstBytesSendFirst
first_bytes_send_first p l front back = let r = bytes_run (rest_on l p) p.customer l front in (
  (bytes_run r.rest r.after l back).sent,
  ap (λ (x : LineRun). x.sent) (sym (bytes_run-append (rest_on l p) p.customer l front back)),
)

-- ---- one step by bytes of a line: what it takes of a piece, frame by frame

-- a feed takes no more than there is, and something where there is something
pub fed_within : (rest : Rest) (piece : List ℕ) → (feed_outcome rest piece).taken ≤ length piece
fed_within rest piece = (goes_on rest piece).within

pub fed_some : (rest : Rest) (piece : List ℕ) → 0 < length piece → 0 < (feed_outcome rest piece).taken
fed_some rest piece = (goes_on rest piece).some

drop-one_more : (n : ℕ) (byte : ℕ) (bytes : List ℕ) → drop (1 + n) (byte ∷ bytes) ≡ drop n bytes
drop-one_more n byte bytes = let e : 1 + n ≡ suc n = omega arith in rw e refl

later_by-later_by : (m n : ℕ) (t : Taking) → later_by m (later_by n t) ≡ later_by (m + n) t
later_by-later_by m n t = ap (λ (k : ℕ). record t { taken = k }) (sym (add_assoc m n t.taken))

later_by-or_later : (m n : ℕ) (rest : Rest) (after : Customer) (frame : List ℕ) (later : Taking) →
    later_by m (or_later n rest (record { after = after; frame = frame }) later)
    ≡ or_later (m + n) rest (record { after = after; frame = frame }) later
later_by-or_later m n rest after [] later = later_by-later_by m n later
later_by-or_later m n rest after (b ∷ bytes) later = refl

-- what a feed takes, and then, where its frame isn't answered, what the step takes of the rest
abbrev pub by_frame : Fed → Customer → ℕ → List ℕ → Taking
by_frame f c l piece = or_later f.taken f.rest (acted_on l f.frame c)
    (take_step f.rest (acted_on l f.frame c).after l (drop f.taken piece))

by_turn : (frame : Option Received) (rest : Rest) (c : Customer) (l byte : ℕ) (bytes : List ℕ) →
    take_step rest c l bytes ≡ by_frame (feed_outcome rest bytes) c l bytes →
    or_later 1 rest (acted_on l frame c) (take_step rest (acted_on l frame c).after l bytes)
    ≡ by_frame (stop_or (record { frame = frame; rest = rest }) (feed_outcome rest bytes)) c l (byte ∷ bytes)
by_turn (Some x) rest c l byte bytes later = refl
by_turn None rest c l byte bytes later =
    let g = feed_outcome rest bytes in
    let s = acted_on l g.frame c in
    ap (later_by 1) later
    ∙ later_by-or_later 1 g.taken g.rest s.after s.frame (take_step g.rest s.after l (drop g.taken bytes))
    ∙ ap (λ (left : List ℕ). or_later (1 + g.taken) g.rest s (take_step g.rest s.after l left))
    (sym (drop-one_more g.taken byte bytes))

pub take_step-by_frame : (rest : Rest) (c : Customer) (l : ℕ) (piece : List ℕ) → take_step rest c l piece
    ≡ by_frame (feed_outcome rest piece) c l piece
take_step-by_frame rest c l [] = refl
take_step-by_frame rest c l (byte ∷ bytes) =
    let t = rest_step rest byte in
    by_turn t.frame t.rest c l byte bytes (take_step-by_frame t.rest c l bytes)

-- A step that took some bytes without an answer, and then those up to the end of a frame.
pub record TakesOn (taken more : ℕ) (old : Rest) (before : Customer) (l : ℕ) (left : List ℕ) (new : Rest)
    (after : Customer) (frame : List ℕ) : Type 0 where
  pub more_is : more ≡ (feed_outcome old left).taken
  pub rest_is : new ≡ (feed_outcome old left).rest
  pub after_is : after ≡ (acted_on l (feed_outcome old left).frame before).after
  pub frame_is : frame ≡ (acted_on l (feed_outcome old left).frame before).frame

abbrev resumed : ℕ → ℕ → List ℕ → ℕ → Rest → Customer → List ℕ → Taking
resumed taken l left more rest after frame =
    or_later (taken + more) rest (record { after = after; frame = frame }) (take_step rest after l (drop more left))

pub takes_on : (taken more : ℕ) (old : Rest) (before : Customer) (l : ℕ) (left : List ℕ) (new : Rest) (after : Customer)
    (frame : List ℕ) → TakesOn taken more old before l left new after frame →
    or_later (taken + more) new (record { after = after; frame = frame }) (take_step new after l (drop more left))
    ≡ later_by taken (take_step old before l left)
takes_on taken more old before l left new after frame h =
    let f = feed_outcome old left in
    let s = acted_on l f.frame before in
    ap (λ (n : ℕ). resumed taken l left n new after frame) h.more_is
    ∙ ap (λ (r : Rest). resumed taken l left f.taken r after frame) h.rest_is
    ∙ ap (λ (c : Customer). resumed taken l left f.taken f.rest c frame) h.after_is
    ∙ ap (λ (b : List ℕ). resumed taken l left f.taken f.rest s.after b) h.frame_is
    ∙ sym (ap (later_by taken) (take_step-by_frame old before l left)
    ∙ later_by-or_later taken f.taken f.rest s.after s.frame (take_step f.rest s.after l (drop f.taken left)))
