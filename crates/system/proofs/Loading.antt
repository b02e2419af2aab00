-- Read after read: the bytes stand in front of the buffer, and the loop ends, since each read brings it nearer to the
-- buffer's end or gives no bytes. `Head` is the loop's invariant.
--   left n s    what is left of a buffer of n bytes after the reads s, and one more while more may follow
use Rattle.policy.specs.Said.{File}
use Prim.Native.Nat.{ℕ, ◌+◌, ◌-◌, ◌^◌, ◌≤◌, ◌<◌}
use native.Mathlib.Omega.{arith}
use mathlib.Core.Bool.{true, false, cond}
use mathlib.Core.Path.{◌≡◌, refl, sym, ap, subst, ◌∙◌}
use mathlib.Core.List.{List, [], ◌∷◌, ◌++◌}
use mathlib.Core.Option.{Option, none, some}
use lib.ListN.{length, take, drop, length-take, length-drop, length-append}
use lib.Seq.{length-take-le, take_at, take-append-le, take-append-add}
use Rattle.facts.proofs.Bools.{clash}
use Rattle.ledger.specs.declared.input.Descriptor.{Descriptor}
use Rattle.ledger.specs.declared.input.Got.{Got}
use Rattle.ledger.specs.declared.input.Got.TheVariants.{Failed, Ended, Bytes}
use Rattle.ledger.specs.Reads.{is_open, gave, Gets}
use Rattle.ledger.specs.Ledger.{Entry, opened, read, closed, enter, Enters}
use Rattle.ledger.proofs.Entering.{enters_first, enters_last}
use Rattle.console.proofs.Parts.{rest_of, put_at}
use Rattle.policy.specs.Files.{text_in}
use Rattle.system.specs.declared.load.Reads.{Reads}
use Rattle.system.specs.Files.{ReadFits, no_reads, next_reads, last_reads, more_reads, file_by, file_of, room_left}
use Rattle.system.specs.Files.{ReadSoFar, none_yet, and_more, ReadToEnd, whole, failed, too_long, ReadPast}
use Rattle.system.specs.Files.{FileLoaded, as_read}

abbrev pub left : ℕ → Reads → ℕ
left n s = (n - s.done) + cond (more_reads s) 1 0

-- ---- one read more

module _ (s : Reads) {g : Got} where
  -- a read that failed leaves the bytes as they were
  pub next_failed : g ≡ Failed → ◌≡◌ {A = Reads} (record { done = s.done; last = g }) (next_reads s g)
  next_failed e = rw e

  -- so does the end
  pub next_ended : g ≡ Ended → ◌≡◌ {A = Reads} (record { done = s.done; last = g }) (next_reads s g)
  next_ended e = rw e

  -- bytes are added
  pub next_bytes :
      {n : ℕ} → g ≡ Bytes n → ◌≡◌ {A = Reads} (record { done = s.done + n; last = Bytes n }) (next_reads s g)
  next_bytes e = rw e

-- ---- the bytes that came

-- the reads s so far, into the buffer: more may follow, and their bytes stand in front; or the last one gave none
pub data Head (fd : Descriptor) (buffer : List ℕ) (s : Reads) : List Entry → Type 0 where
  going :
      {es : List Entry} → more_reads s ≡ true → ReadSoFar fd (length buffer) (take s.done buffer) es →
      Head fd buffer s es
  over :
      {es : List Entry} → more_reads s ≡ false → ReadToEnd fd (length buffer) (text_in (file_of s) buffer) es →
      Head fd buffer s es

-- before the first read no bytes came
pub head_first : (fd : Descriptor) (buffer : List ℕ) {s : Reads} → s ≡ no_reads → Head fd buffer s []
head_first fd buffer e = subst (λ (s : Reads). Head fd buffer s []) (sym e) (going refl none_yet)

-- ---- one read into the rest of the buffer

-- a read goes by what it was asked for and what it said
same_read :
    (fd : Descriptor) (m : ℕ) {n k : ℕ} {cs bs : List ℕ} (new : List ℕ) {g h : Got} (es : List Entry) → cs ≡ bs →
    n ≡ k → g ≡ h → ReadSoFar fd m cs (es ++ (read fd n g new ∷ [])) → ReadSoFar fd m bs (es ++ (read fd k h new ∷ []))
same_read fd m {n} {k} {cs} {bs} new {g} {h} es p q r t =
    subst (λ (x : List ℕ). ReadSoFar fd m x (es ++ (read fd k h new ∷ []))) p
    (subst (λ (x : ℕ). ReadSoFar fd m cs (es ++ (read fd x h new ∷ []))) q
    (subst (λ (x : Got). ReadSoFar fd m cs (es ++ (read fd n x new ∷ []))) r t))

-- the same for the last one
same_last :
    (fd : Descriptor) (m : ℕ) (t : Option (List ℕ)) {n k : ℕ} (new : List ℕ) {g h : Got} (es : List Entry) →
    n ≡ k → g ≡ h → ReadToEnd fd m t (es ++ (read fd n g new ∷ [])) → ReadToEnd fd m t (es ++ (read fd k h new ∷ []))
same_last fd m t {n} {k} new {g} {h} es q r w =
    subst (λ (x : ℕ). ReadToEnd fd m t (es ++ (read fd x h new ∷ []))) q
    (subst (λ (x : Got). ReadToEnd fd m t (es ++ (read fd n x new ∷ []))) r w)

module _
    (buffer part : List ℕ) (s : Reads) (below : s.done < length buffer)
    (same : length part ≡ length (rest_of s.done buffer)) where
  left_over : length part ≡ length buffer - s.done
  left_over =
      omega (arith, same, length-take (length buffer - s.done) (drop s.done buffer), length-drop s.done buffer)

  before_part : length (take s.done buffer) ≡ s.done
  before_part = length-take-le s.done buffer (omega arith)

  -- the buffer is as long as it was
  pub as_long : length (put_at s.done buffer part) ≡ length buffer
  as_long = simp (length-append, length-drop, before_part) (omega (arith, left_over))

  -- the bytes that came into the rest of the buffer are, with those before them, a number of 64 bits
  pub part_fits : (g : Got) → length buffer < 2 ^ 64 → Gets part g → ReadFits s.done g
  part_fits Failed l h = tt
  part_fits Ended l h = tt
  part_fits (Bytes k) l h = omega (arith, h.1.0, left_over)

  -- they stay within it
  pub part_within : (g : Got) {t : Reads} → t ≡ next_reads s g → Gets part g → t.done ≤ length buffer
  part_within g {t} e h = subst (λ (u : Reads). u.done ≤ length buffer) (sym e) (go g h)
    where
      go : (g : Got) → Gets part g → (next_reads s g).done ≤ length buffer
      go Failed h = omega arith
      go Ended h = omega arith
      go (Bytes k) h = omega (arith, h.1.0, left_over)

  -- and less is left than before
  pub part_falls :
      (g : Got) {m : ℕ} {t : Reads} → m ≡ length buffer → more_reads s ≡ true → t ≡ next_reads s g → Gets part g →
      left m t < left (length buffer) s
  part_falls g {m} q more e h =
      subst (λ (u : Reads). left m u < left (length buffer) s) (sym e) (rw (q, more) (go g h))
    where
      go : (g : Got) → Gets part g → left (length buffer) (next_reads s g) < (length buffer - s.done) + 1
      go Failed h = omega arith
      go Ended h = omega arith
      go (Bytes k) h = omega (arith, h.0, h.1.0, left_over)

  in_front : take s.done (put_at s.done buffer part) ≡ take s.done buffer
  in_front = take_at (take s.done buffer) _ s.done before_part

  and_part :
      (k : ℕ) → k ≤ length part →
      take s.done (put_at s.done buffer part) ++ take k part ≡ take (s.done + k) (put_at s.done buffer part)
  and_part k h =
      let rest = drop (length buffer - s.done) (drop s.done buffer) in
      ap (λ (x : List ℕ). x ++ take k part) in_front ∙
      sym
      (ap (λ (n : ℕ). take (n + k) (put_at s.done buffer part)) (sym before_part) ∙
      take-append-add (take s.done buffer) (part ++ rest) k ∙
      ap (λ (x : List ℕ). take s.done buffer ++ x) (take-append-le k part rest h))

  asked : room_left (length (put_at s.done buffer part)) (take s.done (put_at s.done buffer part)) ≡ length part
  asked =
      let size : length (take s.done (put_at s.done buffer part)) ≡ s.done = ap length in_front ∙ before_part in
      omega (arith, size, as_long, left_over)

  carried :
      {fd : Descriptor} {es : List Entry} → ReadSoFar fd (length buffer) (take s.done buffer) es →
      ReadSoFar fd (length (put_at s.done buffer part)) (take s.done (put_at s.done buffer part)) es
  carried {fd} {es} r =
      subst (λ (n : ℕ). ReadSoFar fd n (take s.done (put_at s.done buffer part)) es) (sym as_long)
      (subst (λ (x : List ℕ). ReadSoFar fd (length buffer) x es) (sym in_front) r)

  -- a read more
  pub head_step :
      {fd : Descriptor} (g : Got) {t : Reads} → t ≡ next_reads s g → more_reads s ≡ true → Gets part g →
      (es : List Entry) →
      Head fd buffer s es →
      Head fd (put_at s.done buffer part) t (es ++ (read fd (length part) g (gave g part) ∷ []))
  head_step g e m h es (over n r) = clash m n
  head_step {fd} g e m h es (going n r) =
      subst
      (λ (t : Reads).
      Head fd (put_at s.done buffer part) t (es ++ (read fd (length part) g (gave g part) ∷ []))) (sym e)
      (by (put_at s.done buffer part) (carried r) asked as_long (ap length in_front ∙ before_part) and_part g h)
    where
      by :
          (new : List ℕ) → ReadSoFar fd (length new) (take s.done new) es →
          room_left (length new) (take s.done new) ≡ length part → length new ≡ length buffer →
          length (take s.done new) ≡ s.done →
          ((k : ℕ) → k ≤ length part → take s.done new ++ take k part ≡ take (s.done + k) new) →
          (g : Got) → Gets part g →
          Head fd new (next_reads s g) (es ++ (read fd (length part) g (gave g part) ∷ []))
      by new r room size front more Failed h =
          over refl (same_last fd (length new) none [] es room refl (failed r))
      by new r room size front more Ended h =
          over refl (same_last fd (length new) (some (take s.done new)) [] es room refl (whole r))
      by new r room size front more (Bytes k) h =
          let came : 0 < length (take k part) = omega (arith, h.0, h.1.1) in
          let fits : length (take s.done new) < length new = omega (arith, below, size, front) in
          going refl
          (same_read fd (length new) (take k part) es (more k h.1.0) room (ap Bytes (sym h.1.1))
          (and_more (take k part) r fits came))

-- ---- at the end

-- where the last read gave no bytes, it was read to its end
pub head_over :
    {fd : Descriptor} {buffer : List ℕ} {s : Reads} → more_reads s ≡ false → (es : List Entry) → Head fd buffer s es →
    ReadToEnd fd (length buffer) (text_in (file_of s) buffer) es
head_over n es (going m r) = clash m n
head_over n es (over m r) = r

-- a read into one byte
pub past_read :
    {fd : Descriptor} {g : Got} (next : List ℕ) → length next ≡ 1 → Gets next g →
    ReadPast fd g (read fd (length next) g (gave g next) ∷ [])
past_read {fd} {g} next e h =
    record { next = next; entry = ap (λ (n : ℕ). read fd n g (gave g next) ∷ []) e; some = h }

-- of a full buffer one more read says whether anything follows
pub head_past :
    {fd : Descriptor} (buffer : List ℕ) {s t : Reads} (g : Got) → length buffer ≤ s.done → more_reads s ≡ true →
    t ≡ last_reads s g → (es ws : List Entry) → Head fd buffer s es → ReadPast fd g ws →
    ReadToEnd fd (length buffer) (text_in (file_of t) buffer) (es ++ ws)
head_past buffer g full m e es ws (over n r) p = clash m n
head_past {fd} buffer {s} g full m e es ws (going n r) p =
    subst (λ (t : Reads). ReadToEnd fd (length buffer) (text_in (file_of t) buffer) (es ++ ws)) (sym e)
    (subst (λ (x : List Entry). ReadToEnd fd (length buffer) (text_in (file_by s.done g) buffer) (es ++ x))
    (sym p.entry) (by g p.some))
  where
    size : length buffer ≤ length (take s.done buffer)
    size = omega (arith, full, length-take s.done buffer)

    one : room_left (length buffer) (take s.done buffer) ≡ 1
    one = omega (arith, size)

    by :
        (g : Got) → Gets p.next g →
        ReadToEnd fd (length buffer) (text_in (file_by s.done g) buffer) (es ++ (read fd 1 g (gave g p.next) ∷ []))
    by Failed h = same_last fd (length buffer) none [] es one refl (failed r)
    by Ended h = same_last fd (length buffer) (some (take s.done buffer)) [] es one refl (whole r)
    by (Bytes k) h =
        same_last fd (length buffer) none (take k p.next) es one (ap Bytes (sym h.1.1))
        (too_long (take k p.next) r size (omega (arith, h.0, h.1.1)))

-- a file that was opened is what its reads make of it
pub file_loaded :
    {fd : Descriptor} (path buffer : List ℕ) (s : Reads) {f : File} {k l m n : ℕ} → is_open fd ≡ true → f ≡ file_of s →
    l ≡ enter k (opened path fd) → Enters (ReadToEnd fd (length buffer) (text_in (file_of s) buffer)) l m →
    n ≡ enter m (closed fd) → Enters (FileLoaded (length buffer) path (text_in f buffer)) k n
file_loaded {fd} path buffer s {f} p e first reads last =
    enters_first (opened path fd) first
    (enters_last {R = λ es. FileLoaded (length buffer) path (text_in f buffer) (opened path fd ∷ es)} (closed fd) reads
    last
    (λ es r.
    subst (λ (x : File). FileLoaded (length buffer) path (text_in x buffer) (opened path fd ∷ (es ++ (closed fd ∷ []))))
    (sym e) (as_read p r)))
    (λ es r. r)
