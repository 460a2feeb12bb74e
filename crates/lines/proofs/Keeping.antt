-- What a collector keeps of a line is all that counts: whatever comes after it, the line kept and the line itself end alike.
-- Assumes nothing.
use Prim.Native.Nat.{ℕ, suc, ◌+◌, ◌-◌, ◌≤◌, ◌<◌, min}
use native.Mathlib.Omega.{arith}
use native.Mathlib.Numerals.{add-one}
use native.Mathlib.Decide.{ℕ_discrete}
use mathlib.Core.Path.{◌≡◌, refl, sym, ap, ◌∙◌}
use mathlib.Core.Bool.{Bool, true, false, ◌&&◌}
use mathlib.Core.List.{List, [], ◌∷◌, ◌++◌, append_assoc, append-nil}
use lib.ListN.{length, get_or, take, drop, set, length-append, length-take, length-drop, take-append-drop}
use lib.Seq.{take_all, length-take-le, take-append-le, take-append_seam, take-append-add, take_at}
use lib.Seq.{take-suc, take-take, drop-append-add, drop-drop, get_or_at, set_split}
use lib.Dec.{eqb, leb}
use borrow.Author.Tests.{eq-eqb, ne_eqb, le-leb, lt-leb, leb-true, leb-false, eqb-true}
use Rattle.refusal.specs.Words.{pick}
use Rattle.lines.specs.Lines.{ends_in_cr, line_len}
use Rattle.lines.specs.Held.{count_of, keep, Kept, kept_of, held_of, Holds}
use Rattle.lines.specs.Collect.{event_of}

-- too long, whatever comes
pub record Over (m : ℕ) (h : List ℕ) : Type 0 where
  pub more : m < length h
  pub no_cr : length h ≡ m + 1 → get_or h m 0 ≡ 13 → ⊥

-- one of three: short enough, m bytes and a CR, too long
pub data Size (m : ℕ) (h : List ℕ) : Type 0 where
  short : length h ≤ m → Size m h
  return : length h ≡ m + 1 → get_or h m 0 ≡ 13 → Size m h
  over : Over m h → Size m h

pub size_of : (m : ℕ) (h : List ℕ) → Size m h
size_of m h = go (leb (length h) m) refl
  where
    by_byte : m < length h → length h ≡ m + 1 → Dec (get_or h m 0 ≡ 13) → Size m h
    by_byte l e (yes d) = return e d
    by_byte l e (no d) = over (record { more = l; no_cr = λ _. d })

    by_length : m < length h → Dec (length h ≡ m + 1) → Size m h
    by_length l (yes e) = by_byte l e (ℕ_discrete (get_or h m 0) 13)
    by_length l (no e) = over (record { more = l; no_cr = λ x _. e x })

    go : (b : Bool) → leb (length h) m ≡ b → Size m h
    go true e = short (leb-true (length h) m e)
    go false e = by_length (leb-false (length h) m e) (ℕ_discrete (length h) (m + 1))

module _ (m : ℕ) (h : List ℕ) where
  pub count-short : length h ≤ m → count_of m h ≡ length h
  unfolding count_of
  count-short l = rw (le-leb (length h) m l)

  pub count_return : length h ≡ m + 1 → get_or h m 0 ≡ 13 → count_of m h ≡ m + 1
  unfolding count_of
  count_return e d = rw (lt-leb (length h) m (omega arith), eq-eqb (length h) (m + 1) e, eq-eqb (get_or h m 0) 13 d)

  pub count-over : Over m h → count_of m h ≡ m + 2
  unfolding count_of
  count-over o = rw (lt-leb (length h) m o.more) (go (ℕ_discrete (length h) (m + 1)))
    where
      go : Dec (length h ≡ m + 1) → pick (eqb (length h) (m + 1) && eqb (get_or h m 0) 13) (m + 1) (m + 2) ≡ m + 2
      go (yes e) = rw (eq-eqb (length h) (m + 1) e, ne_eqb (get_or h m 0) 13 (o.no_cr e))
      go (no d) = rw (ne_eqb (length h) (m + 1) d)

  -- at its LF a line that is over is too long, with or without a CR
  pub len-over : (strip : Bool) → Over m h → m < line_len strip h
  unfolding line_len ends_in_cr
  len-over strip o = go strip (eqb (get_or h (length h - 1) 0) 13) refl
    where
      by_length : get_or h (length h - 1) 0 ≡ 13 → Dec (length h ≡ m + 1) → m < length h - 1
      by_length d (yes e) = let z : length h - 1 ≡ m = omega arith in absurd (o.no_cr e (rw z at d))
      by_length d (no n) = omega (arith, o.more, n)

      go : (a b : Bool) → eqb (get_or h (length h - 1) 0) 13 ≡ b → m < pick (a && b) (length h - 1) (length h)
      go false b e = o.more
      go true false e = o.more
      go true true e = by_length (eqb-true (get_or h (length h - 1) 0) 13 e) (ℕ_discrete (length h) (m + 1))

  pub over-append : (p : List ℕ) → Over m h → Over m (h ++ p)
  over-append [] o = rw (append-nil h) o
  over-append (x ∷ p) o = record {
    more = rw length-append (omega (arith, o.more));
    no_cr = λ e d. omega (arith, o.more, simp length-append at e);
  }

-- two lines that end alike, whatever comes after them
pub data Alike (m : ℕ) (g h : List ℕ) : Type 0 where
  same : g ≡ h → Alike m g h
  overs : take m g ≡ take m h → Over m g → Over m h → Alike m g h

module _ (m : ℕ) (g h : List ℕ) where
  pub alike_append : (p : List ℕ) → Alike m g h → Alike m (g ++ p) (h ++ p)
  alike_append p (same e) = same (ap (λ (l : List ℕ). l ++ p) e)
  alike_append p (overs e a b) =
      overs (take-append-le m g p (omega (arith, a.more)) ∙ e ∙ sym (take-append-le m h p (omega (arith, b.more))))
      (over-append m g p a) (over-append m h p b)

  pub alike_count : Alike m g h → count_of m g ≡ count_of m h
  alike_count (same e) = ap (count_of m) e
  alike_count (overs e a b) = count-over m g a ∙ sym (count-over m h b)

  pub alike_keep : (buf : List ℕ) → Alike m g h → keep m g buf ≡ keep m h buf
  unfolding keep
  alike_keep buf (same e) = rw e
  alike_keep buf (overs e a b) = rw e

  pub alike_event : (strip : Bool) (next : ℕ) → Alike m g h → event_of m strip g next ≡ event_of m strip h next
  unfolding event_of
  alike_event strip next (same e) = rw e
  alike_event strip next (overs e a b) =
      rw (lt-leb (line_len strip g) m (len-over m g strip a), lt-leb (line_len strip h) m (len-over m h strip b))

-- the buffer after a line was kept in it
module _ (m : ℕ) (h buf : List ℕ) (room : m ≤ length buf) where
  pub keep-length : length (keep m h buf) ≡ length buf
  unfolding keep
  keep-length = simp (length-append, length-drop, length-take) (omega arith)

  -- bytes after h are kept as if h had not been kept before
  pub keep-more : (p : List ℕ) → keep m (h ++ p) (keep m h buf) ≡ keep m (h ++ p) buf
  unfolding keep
  keep-more p =
      let l : ℕ = length (take m h) in
      let k : ℕ = length (take m (h ++ p)) in
      let e : k ≡ l + (k - l) = omega (arith, length-take m h, length-take m (h ++ p), length-append h p) in
      ap (λ (t : List ℕ). take m (h ++ p) ++ t)
      (ap (λ (i : ℕ). drop i (take m h ++ drop l buf)) e ∙ drop-append-add (take m h) (drop l buf) (k - l) ∙ drop-drop (k - l) l buf
      ∙ ap (λ (i : ℕ). drop i buf) (sym e))

  pub kept-holds : Holds m h (count_of m h) (keep m h buf)
  kept-holds = record {
    counts = refl;
    stands = rw (append-nil h) at (keep-more []);
    room = rw keep-length room;
  }

  pub keep-take : (n : ℕ) → n ≤ m → keep m (take n buf) buf ≡ buf
  unfolding keep
  keep-take n l = rw (take_all m (take n buf) (rw (length-take-le n buf (omega arith)) l), length-take-le n buf (omega arith)) (take-append-drop n buf)

  pub keep_as_is : take m h ≡ take m buf → keep m h buf ≡ buf
  unfolding keep
  keep_as_is e = rw (e, length-take-le m buf room) (take-append-drop m buf)

-- the line that a number and a buffer stand for
module _ (m n : ℕ) (buf : List ℕ) (room : m ≤ length buf) where
  pub held_length : n ≤ m + 2 → length (held_of m n buf) ≡ n
  unfolding held_of
  held_length l = simp (length-take, length-append) (omega arith)

  pub held_short : n ≤ m → held_of m n buf ≡ take n buf
  unfolding held_of
  held_short l = take-append-le n (take m buf) (13 ∷ 0 ∷ []) (rw (length-take-le m buf room) l) ∙ take-take n m buf l

  pub held_take : m ≤ n → take m (held_of m n buf) ≡ take m buf
  unfolding held_of
  held_take l =
      take-take m n (take m buf ++ 13 ∷ 0 ∷ []) l ∙ take_at (take m buf) (13 ∷ 0 ∷ []) m (length-take-le m buf room)

  pub held_return : n ≡ m + 1 → held_of m n buf ≡ take m buf ++ 13 ∷ []
  unfolding held_of
  held_return e =
      ap (λ (i : ℕ). take i (take m buf ++ 13 ∷ 0 ∷ [])) (e ∙ ap (λ (i : ℕ). i + 1) (sym (length-take-le m buf room)))
      ∙ take-append-add (take m buf) (13 ∷ 0 ∷ []) 1

  pub held_over : n ≡ m + 2 → Over m (held_of m n buf)
  held_over e = record {
    more = omega (arith, held_length (omega arith));
    no_cr = λ x _. omega (arith, held_length (omega arith));
  }

  -- a number above m + 2 says no more
  pub held_cap : held_of m (min n (m + 2)) buf ≡ held_of m n buf
  unfolding held_of
  held_cap = go (take m buf ++ 13 ∷ 0 ∷ []) (simp (length-append, length-take) (omega arith)) (leb n (m + 2)) refl
    where
      go : (whole : List ℕ) → length whole ≡ m + 2 → (b : Bool) → leb n (m + 2) ≡ b → take (min n (m + 2)) whole ≡ take n whole
      go whole full true e = let z : min n (m + 2) ≡ n = omega (arith, leb-true n (m + 2) e) in rw z
      go whole full false e =
          take_all (min n (m + 2)) whole (omega (arith, full, leb-false n (m + 2) e))
          ∙ sym (take_all n whole (omega (arith, full, leb-false n (m + 2) e)))

-- a collector that holds h stands for a line like h
pub holds_alike : (m : ℕ) (h : List ℕ) (n : ℕ) (buf : List ℕ) → Holds m h n buf → Alike m (held_of m n buf) h
unfolding keep
holds_alike m h n buf held = go (size_of m h)
  where
    front : m ≤ length h → take m buf ≡ take m h
    front l = ap (take m) (sym held.stands) ∙ take_at (take m h) (drop (length (take m h)) buf) m (length-take-le m h l)

    whole : length h ≤ m → take (length h) buf ≡ h
    whole l =
        ap (take (length h)) (sym held.stands)
        ∙ ap (λ (t : List ℕ). take (length h) (t ++ drop (length t) buf)) (take_all m h l) ∙ take-append_seam h (drop (length h) buf)

    go : Size m h → Alike m (held_of m n buf) h
    go (short l) =
        let e : n ≡ length h = held.counts ∙ count-short m h l in
        same (held_short m n buf held.room (omega arith) ∙ ap (λ (i : ℕ). take i buf) e ∙ whole l)
    go (return e d) =
        same (held_return m n buf held.room (held.counts ∙ count_return m h e d)
        ∙ ap (λ (t : List ℕ). t ++ 13 ∷ []) (front (omega arith))
        ∙ ap (λ (x : ℕ). take m h ++ x ∷ []) (sym d) ∙ sym (take-suc h m 0 (omega arith)) ∙ take_all (suc m) h (omega arith))
    go (over o) =
        let e : n ≡ m + 2 = held.counts ∙ count-over m h o in
        overs (held_take m n buf held.room (omega arith) ∙ front (omega (arith, o.more))) (held_over m n buf held.room e) o

-- and each number up to m + 2 holds the line that it stands for
module _ (m n : ℕ) (buf : List ℕ) (room : m ≤ length buf) (few : n ≤ m + 2) where
  pub held_holds : Holds m (held_of m n buf) n buf
  held_holds = go (leb n m) refl
    where
      by_number : m < n → Dec (n ≡ m + 1) → n ≡ count_of m (held_of m n buf)
      by_number l (yes e) =
          e ∙ sym (count_return m (held_of m n buf) (held_length m n buf room few ∙ e)
          (ap (λ (t : List ℕ). get_or t m 0) (held_return m n buf room e) ∙ get_or_at (take m buf) 13 [] 0 m (length-take-le m buf room)))
      by_number l (no d) =
          let e : n ≡ m + 2 = omega arith in e ∙ sym (count-over m (held_of m n buf) (held_over m n buf room e))

      go : (b : Bool) → leb n m ≡ b → Holds m (held_of m n buf) n buf
      go true e =
          let l : n ≤ m = leb-true n m e in
          record {
            counts = sym (count-short m (held_of m n buf) (rw (held_length m n buf room few) l) ∙ held_length m n buf room few);
            stands = stays l;
            room = room;
          }
        where
          stays : n ≤ m → keep m (held_of m n buf) buf ≡ buf
          stays l = ap (λ (t : List ℕ). keep m t buf) (held_short m n buf room l) ∙ keep-take m (held_of m n buf) buf room n l
      go false e =
          let l : m < n = leb-false n m e in
          record {
            counts = by_number l (ℕ_discrete n (m + 1));
            stands = keep_as_is m (held_of m n buf) buf room (held_take m n buf room (omega arith));
            room = room;
          }

  -- nothing more is kept of it
  pub held_kept : record { len = n; line = buf } ≡ kept_of m (held_of m n buf) buf
  held_kept = rw (sym held_holds.counts, held_holds.stands)

-- one byte more: it is stored while there is room, a CR after m bytes is remembered, anything else there is too long
module _ (m n : ℕ) (buf : List ℕ) (room : m ≤ length buf) (x : ℕ) where
  pub push_short : n < m → record { len = n + 1; line = set buf n x } ≡ kept_of m (held_of m n buf ++ x ∷ []) buf
  unfolding keep
  push_short l =
      let e : held_of m n buf ≡ take n buf = held_short m n buf room (omega arith) in
      let k : length (take n buf ++ x ∷ []) ≡ n + 1 = rw (length-append, length-take-le n buf (omega arith)) in
      rw (
        e,
        count-short m (take n buf ++ x ∷ []) (omega (arith, k)),
        take_all m (take n buf ++ x ∷ []) (omega (arith, k)),
        k,
        set_split buf n x (omega arith),
        append_assoc (take n buf) (x ∷ []) (drop (n + 1) buf),
        add-one n,
      )

  after-take : m ≤ n → n ≤ m + 2 → take m (held_of m n buf ++ x ∷ []) ≡ take m buf
  after-take l few =
      take-append-le m (held_of m n buf) (x ∷ []) (rw (held_length m n buf room few) l) ∙ held_take m n buf room l

  after-length : n ≤ m + 2 → length (held_of m n buf ++ x ∷ []) ≡ n + 1
  after-length few = rw (length-append, held_length m n buf room few)

  after-byte : n ≡ m → get_or (held_of m n buf ++ x ∷ []) m 0 ≡ x
  after-byte e = get_or_at (held_of m n buf) x [] 0 m (held_length m n buf room (omega arith) ∙ e)

  pub push_return : n ≡ m → x ≡ 13 → record { len = m + 1; line = buf } ≡ kept_of m (held_of m n buf ++ x ∷ []) buf
  push_return e d =
      rw (
        count_return m (held_of m n buf ++ x ∷ []) (after-length (omega arith) ∙ ap (λ (i : ℕ). i + 1) e) (after-byte e ∙ d),
        keep_as_is m (held_of m n buf ++ x ∷ []) buf room (after-take (omega arith) (omega arith)),
      )

  pub push_over : m ≤ n → n ≤ m + 2 → (n ≡ m → x ≡ 13 → ⊥) → record { len = m + 2; line = buf } ≡ kept_of m (held_of m n buf ++ x ∷ []) buf
  push_over l few d =
      let k : length (held_of m n buf ++ x ∷ []) ≡ n + 1 = after-length few in
      rw (
        count-over m (held_of m n buf ++ x ∷ [])
            (record { more = omega (arith, k); no_cr = λ e b. let z : n ≡ m = omega arith in d z (sym (after-byte z) ∙ b) }),
        keep_as_is m (held_of m n buf ++ x ∷ []) buf room (after-take l few),
      )

-- what comes after a line that is held is kept as after the line itself
module _ (m : ℕ) (h : List ℕ) (n : ℕ) (buf : List ℕ) (held : Holds m h n buf) where
  pub count-after : (p : List ℕ) → count_of m (held_of m n buf ++ p) ≡ count_of m (h ++ p)
  count-after p = alike_count m (held_of m n buf ++ p) (h ++ p) (alike_append m (held_of m n buf) h p (holds_alike m h n buf held))

  pub keep-after : (p : List ℕ) → keep m (held_of m n buf ++ p) buf ≡ keep m (h ++ p) buf
  keep-after p = alike_keep m (held_of m n buf ++ p) (h ++ p) buf (alike_append m (held_of m n buf) h p (holds_alike m h n buf held))

  pub event-after : (p : List ℕ) (strip : Bool) (next : ℕ) → event_of m strip (held_of m n buf ++ p) next ≡ event_of m strip (h ++ p) next
  event-after p strip next =
      alike_event m (held_of m n buf ++ p) (h ++ p) strip next (alike_append m (held_of m n buf) h p (holds_alike m h n buf held))

-- the same, of a line that was kept just now
module _ (m : ℕ) (h : List ℕ) (buf : List ℕ) (room : m ≤ length buf) (n : ℕ) (buf' : List ℕ) (e : record { len = n; line = buf' } ≡ kept_of m h buf) where
  now_holds : Holds m h n buf'
  now_holds =
      let a : n ≡ count_of m h = ap (λ (k : Kept). k.len) e in
      let b : buf' ≡ keep m h buf = ap (λ (k : Kept). k.line) e in
      rw (a, b) (kept-holds m h buf room)

  pub kept_more : (p : List ℕ) → kept_of m (held_of m n buf' ++ p) buf' ≡ kept_of m (h ++ p) buf
  kept_more p =
      let b : buf' ≡ keep m h buf = ap (λ (k : Kept). k.line) e in
      let c : keep m (h ++ p) buf' ≡ keep m (h ++ p) buf = ap (keep m (h ++ p)) b ∙ keep-more m h buf room p in
      rw (count-after m h n buf' now_holds p, keep-after m h n buf' now_holds p, c)

  pub kept-event : (strip : Bool) (next : ℕ) → event_of m strip (held_of m n buf') next ≡ event_of m strip h next
  kept-event strip next = simp append-nil at (event-after m h n buf' now_holds [] strip next)

  pub kept-few : n ≤ m + 2
  kept-few = go (size_of m h) (ap (λ (k : Kept). k.len) e)
    where
      go : Size m h → n ≡ count_of m h → n ≤ m + 2
      go (short l) c = omega (arith, c, count-short m h l)
      go (return a b) c = omega (arith, c, count_return m h a b)
      go (over o) c = omega (arith, c, count-over m h o)

  pub kept-length : length buf' ≡ length buf
  kept-length = ap (λ (k : Kept). length k.line) e ∙ keep-length m h buf room
