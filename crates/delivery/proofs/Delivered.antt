-- The second half of demand 3: a message of several lines is handed out if its lines come in order, and a single line whenever it arrives. Assumes nothing.
use Prim.Native.Nat.{ℕ, zero, suc, ◌+◌, ◌-◌, ◌≤◌, ◌<◌}
use native.Mathlib.Omega.{arith}
use native.Mathlib.Decide.{ℕ_discrete}
use mathlib.Core.Path.{◌≡◌, refl, sym, ap, ◌∙◌, subst}
use mathlib.Core.Logic.{◌≢◌}
use mathlib.Core.Bool.{true, false}
use mathlib.Core.Option.{some, some_inj, none-ne-some}
use mathlib.Core.List.{List, [], ◌∷◌, ◌++◌, Memᴰ}
use lib.ListN.{get_elem?}
use lib.Seq.{append_snoc}
use borrow.Author.Tests.{lt-ltb, ne_eqb}
use Rattle.std.specs.Prelude.{Some}
use Rattle.writer.specs.Message.{Message, lines_in}
use Rattle.delivery.specs.Delivery.{Arrival, Answer, unfinished, complete, AllOurs, Ours}
use Rattle.delivery.specs.Delivery.{number_on, first_of_several, always, NoMixing, Delivery, DeliveryAlone}
use Rattle.delivery.proofs.Lines.{number_several}
use Rattle.delivery.proofs.Reader.{Step, answers_from, run_from, Reader, line, gives}
use Rattle.delivery.proofs.Effects as effects
use Rattle.delivery.proofs.Effects.{AllSendable, Effect, joins, stays}
use Rattle.delivery.proofs.Safe.{latest, newest_snoc, later_ours}

-- past the head of a list
past : {A : Type 0} (a : A) (l : List A) (q : ℕ) → 1 ≤ q → get_elem? (a ∷ l) q ≡ get_elem? l (q - 1)
past a l zero h = absurd (omega arith)
past a l (suc q) h = let e : suc q - 1 ≡ q = omega arith in rw e

-- what stands at place 0 is the head
head-is : (a : Arrival) (rest : List Arrival) (q : ℕ) (b : Arrival) → q ≡ 0 → get_elem? (a ∷ rest) q ≡ some b → a ≡ b
head-is a rest q b z e = some_inj.0 (subst (λ (i : ℕ). get_elem? (a ∷ rest) i ≡ some b) z e)

module _ {S : Type 0} {does : ℕ → S → Arrival → Step S} {fresh : S} (reader : Reader does fresh) (sent : List Message)
    (sendable : AllSendable sent) (m : Message) where
  abbrev n : ℕ
  n = lines_in m

  -- lines i to n of m come in rest, in order, the last at place e, and no first of several before it
  record Coming (i : ℕ) (rest : List Arrival) (e : ℕ) : Type 0 where
    at : ℕ → ℕ
    ends : at n ≡ e
    in_range : i ≤ n
    comes : (x : ℕ) → i ≤ x → x ≤ n → get_elem? rest (at x) ≡ some (line m x)
    order : (x y : ℕ) → i ≤ x → x < y → y ≤ n → at x < at y
    no_first : (q : ℕ) (a : Arrival) → q < e → get_elem? rest q ≡ some a → first_of_several a ≡ false

  -- m is handed out by place e when rest arrives at the state s, from call p on
  record Given (p : ℕ) (s : S) (rest : List Arrival) (e : ℕ) : Type 0 where
    when : ℕ
    by : when ≤ e
    given : get_elem? (answers_from does p s rest) when ≡ some (complete m.payload m.fill)

  -- what is still to come after the head: the head was line i, the last one or not, or nothing of it
  data After (i : ℕ) (a : Arrival) (rest : List Arrival) (e : ℕ) : Type 0 where
    was_last : a ≡ line m i → i ≡ n → After i a rest e
    was_one : a ≡ line m i → 1 ≤ e → Coming (i + 1) rest (e - 1) → After i a rest e
    was_none : 1 ≤ e → Coming i rest (e - 1) → After i a rest e

  after : (i : ℕ) (a : Arrival) (rest : List Arrival) (e : ℕ) → Coming i (a ∷ rest) e → After i a rest e
  after i a rest e c = by_place (ℕ_discrete (c.at i) 0)
    where
      -- the lines from one past the head on are past the head
      pos : (j : ℕ) → i ≤ j → 1 ≤ c.at j → (x : ℕ) → j ≤ x → x ≤ n → 1 ≤ c.at x
      pos j h z x h' l' = go (ℕ_discrete j x)
        where
          go : Dec (j ≡ x) → 1 ≤ c.at x
          go (yes q) = rw q at z
          go (no d) = omega (arith, c.order j x h (omega arith) l')

      -- what comes from line j on, all of it past the head
      later : (j : ℕ) → i ≤ j → j ≤ n → 1 ≤ c.at j → Coming j rest (e - 1)
      later j h l z = record {
        at = λ x. c.at x - 1;
        ends = rw c.ends;
        in_range = l;
        comes = λ x h' l'. sym (past a rest (c.at x) (pos j h z x h' l')) ∙ c.comes x (omega arith) l';
        order = λ x y h' l' l''. omega (arith, c.order x y (omega arith) l' l'', pos j h z x h' (omega arith));
        no_first = λ q b l' z'. c.no_first (suc q) b (omega arith) z';
      }

      by_place : Dec (c.at i ≡ 0) → After i a rest e
      by_place (yes z) = go (ℕ_discrete i n)
        where
          hd : a ≡ line m i
          hd = head-is a rest (c.at i) (line m i) z (c.comes i (omega arith) c.in_range)

          go : Dec (i ≡ n) → After i a rest e
          go (yes q) = was_last hd q
          go (no d) =
              let r = c.in_range in
              was_one hd (omega (arith, c.ends, c.order i n (omega arith) (omega arith) (omega arith)))
              (later (i + 1) (omega arith) (omega arith) (omega (arith, c.order i (i + 1) (omega arith) (omega arith) (omega arith))))
      by_place (no d) =
          was_none (omega (arith, c.ends, pos i (omega arith) (omega arith) n c.in_range (omega arith))) (later i (omega arith) c.in_range (omega arith))

  module _ (p : ℕ) (s s' : S) (a : Arrival) (rest : List Arrival) (e : ℕ) where
    given-here : does p s a ≡ gives (complete m.payload m.fill) s' → Given p s (a ∷ rest) e
    given-here q = record { when = 0; by = omega arith; given = rw q }

    given_later : (x : Answer) → does p s a ≡ gives x s' → 1 ≤ e → Given (suc p) s' rest (e - 1) → Given p s (a ∷ rest) e
    given_later x q h g = record { when = suc g.when; by = let b = g.by in omega arith; given = rw q g.given }

  module _ (several : 1 < n) where
    -- the head starts nothing, since no first of several comes before the last line, nor is the last line one
    head_idle : (i : ℕ) (a : Arrival) (rest : List Arrival) (e : ℕ) → Coming i (a ∷ rest) e → first_of_several a ≡ false
    head_idle i a rest e c = go (ℕ_discrete e 0)
      where
        go : Dec (e ≡ 0) → first_of_several a ≡ false
        go (yes z) =
            let hd = head-is a rest (c.at n) (line m n) (c.ends ∙ z) (c.comes n c.in_range (omega arith)) in
            rw hd (rw (ne_eqb n 1 (omega arith)))
        go (no d) = c.no_first 0 a (omega arith) refl

    -- one arrival while lines i and on are to come and j lines are held
    one : (p i j : ℕ) (a : Arrival) (rest : List Arrival) (e : ℕ) → Ours sent a
        → (a.line ≢ 1 → number_on a ≡ Some m.number → a.of ≡ m)
        → 1 ≤ j → j < n → i ≤ j + 1 → Coming i (a ∷ rest) e
        → ((i' j' : ℕ) → 1 ≤ j' → j' < n → i' ≤ j' + 1 → Coming i' rest (e - 1) → Given (suc p) (reader.held m j') rest (e - 1))
        → Given p (reader.held m j) (a ∷ rest) e
    one p i j a rest e w same h l d c rec = go (effects.effect reader sent sendable p m several j a w (head_idle i a rest e c) same)
      where
        go : Effect reader sent sendable p m several j a → Given p (reader.held m j) (a ∷ rest) e
        go (joins o q) = by (ℕ_discrete (j + 1) n)
          where
            adv : effects.Advanced reader sent sendable p m j a
            adv = effects.advance reader sent sendable p m j h a w o q

            by : Dec (j + 1 ≡ n) → Given p (reader.held m j) (a ∷ rest) e
            by (yes z) = given-here p (reader.held m j) (reader.held m (j + 1)) a rest e (rw (adv.whole z) at adv.is)
            by (no z) = on (after i a rest e c)
              where
                below : j + 1 < n
                below = omega (arith, adv.in_range)

                joined : 1 ≤ e → Given (suc p) (reader.held m (j + 1)) rest (e - 1) → Given p (reader.held m j) (a ∷ rest) e
                joined = given_later p (reader.held m j) (reader.held m (j + 1)) a rest e adv.says adv.is

                on : After i a rest e → Given p (reader.held m j) (a ∷ rest) e
                on (was_last hd t) = let x : a.line ≡ i = ap (λ (y : Arrival). y.line) hd in absurd (omega (arith, below))
                on (was_one hd s c') = joined s (rec (i + 1) (j + 1) (omega arith) below (omega arith) c')
                on (was_none s c') = joined s (rec i (j + 1) (omega arith) below (omega arith) c')
        go (stays not-its t) = on (after i a rest e c)
          where
            not-next : a ≡ line m i → i ≢ j + 1
            not-next hd z = not-its (ap (λ (y : Arrival). y.of) hd) (ap (λ (y : Arrival). y.line) hd ∙ z)

            stayed : 1 ≤ e → Given (suc p) (reader.held m j) rest (e - 1) → Given p (reader.held m j) (a ∷ rest) e
            stayed = given_later p (reader.held m j) (reader.held m j) a rest e t.says t.is

            on : After i a rest e → Given p (reader.held m j) (a ∷ rest) e
            on (was_last hd z) = absurd (not-next hd (omega arith))
            on (was_one hd s c') = stayed s (rec (i + 1) j h l (omega (arith, not-next hd)) c')
            on (was_none s c') = stayed s (rec i j h l d c')

    -- while lines i and on are to come and j lines are held, those of the newest first line f
    on : (before rest : List Arrival) (p i j e : ℕ) (f : Arrival) → AllOurs sent rest → NoMixing always (before ++ rest)
        → latest before ≡ some f → f.of ≡ m → 1 ≤ j → j < n → i ≤ j + 1 → Coming i rest e → Given p (reader.held m j) rest e
    on before [] p i j e f w u z o h l d c = absurd (none-ne-some _ (c.comes n c.in_range (omega arith)))
    on before (a ∷ rest) p i j e f w u z o h l d c =
        one p i j a rest e (w a (Memᴰ.head refl))
        (λ b q. u before rest a f refl z b (q ∙ sym (number_several f.of f.line (rw o several) ∙ ap (λ (x : Message). Some x.number) o))
        ∙ o) h l d c
        (λ i' j' h' l' d' c'.
        on (before ++ a ∷ []) rest (suc p) i' j' (e - 1) f (later_ours sent a rest w) (rw append_snoc u)
        (newest_snoc before a ∙ rw (head_idle i a rest e c) z) o h' l' d' c')

    -- before its first line has come: the lines from the first on are still to come, and the first is at place b
    record Waiting (rest : List Arrival) (b e : ℕ) : Type 0 where
      at : ℕ → ℕ
      starts : at 1 ≡ b
      ends : at n ≡ e
      comes : (x : ℕ) → 1 ≤ x → x ≤ n → get_elem? rest (at x) ≡ some (line m x)
      order : (x y : ℕ) → 1 ≤ x → x < y → y ≤ n → at x < at y
      no_first : (q : ℕ) (a : Arrival) → b < q → q < e → get_elem? rest q ≡ some a → first_of_several a ≡ false

    record GivenIn (p : ℕ) (s : S) (rest : List Arrival) (b e : ℕ) : Type 0 where
      when : ℕ
      from : b < when
      by : when ≤ e
      given : get_elem? (answers_from does p s rest) when ≡ some (complete m.payload m.fill)

    -- the first line has come
    start : (before rest : List Arrival) (a : Arrival) (p : ℕ) (s : S) (e : ℕ) → AllOurs sent (a ∷ rest)
        → NoMixing always (before ++ a ∷ rest) → Waiting (a ∷ rest) 0 e
        → GivenIn p s (a ∷ rest) 0 e
    start before rest a p s e w u c =
        record { when = suc g.when; from = omega arith; by = omega (arith, g.by, pos n (omega arith) (omega arith), c.ends); given = rw begun g.given }
      where
        hd : a ≡ line m 1
        hd = head-is a rest (c.at 1) (line m 1) c.starts (c.comes 1 (omega arith) (omega arith))

        begun : does p s a ≡ gives unfinished (reader.held m 1)
        begun = rw hd (reader.first m (sendable m (rw hd at (w a (Memᴰ.head refl)).was_sent)) p s several)

        is-first : first_of_several a ≡ true
        is-first = rw hd (lt-ltb 1 n several)

        pos : (x : ℕ) → 2 ≤ x → x ≤ n → 1 ≤ c.at x
        pos x h l = omega (arith, c.order 1 x (omega arith) (omega arith) l)

        rest_comes : Coming 2 rest (e - 1)
        rest_comes = record {
          at = λ x. c.at x - 1;
          ends = rw c.ends;
          in_range = several;
          comes = λ x h l. sym (past a rest (c.at x) (pos x h l)) ∙ c.comes x (omega arith) l;
          order = λ x y h l l'. omega (arith, c.order x y (omega arith) l l', pos x h (omega arith));
          no_first = λ q b l z. c.no_first (suc q) b (omega arith) (omega arith) z;
        }

        g : Given (suc p) (reader.held m 1) rest (e - 1)
        g =
            on (before ++ a ∷ []) rest (suc p) 2 1 (e - 1) a (later_ours sent a rest w) (rw append_snoc u) (newest_snoc before a ∙ rw is-first)
            (ap (λ (y : Arrival). y.of) hd)
            (omega arith) several (omega arith) rest_comes

    -- the first line is still to come
    wait_more : (a : Arrival) (rest : List Arrival) (b e : ℕ) → Waiting (a ∷ rest) (suc b) e → (1 ≤ e) × Waiting rest b (e - 1)
    wait_more a rest b e c = (
      omega (arith, c.ends, pos n (omega arith) (omega arith)),
      record {
        at = λ x. c.at x - 1;
        starts = omega (arith, c.starts);
        ends = rw c.ends;
        comes = λ x h l. sym (past a rest (c.at x) (pos x h l)) ∙ c.comes x (omega arith) l;
        order = λ x y h l l'. omega (arith, c.order x y (omega arith) l l', pos x h (omega arith));
        no_first = λ q x l l' z. c.no_first (suc q) x (omega arith) (omega arith) z;
      },
    )
      where
        pos : (x : ℕ) → 1 ≤ x → x ≤ n → 1 ≤ c.at x
        pos x h l = go (ℕ_discrete x 1)
          where
            go : Dec (x ≡ 1) → 1 ≤ c.at x
            go (yes q) = rw (q, c.starts) (omega arith)
            go (no d) = omega (arith, c.order 1 x (omega arith) (omega arith) l)

    wait : (before rest : List Arrival) (p : ℕ) (s : S) (b e : ℕ) → AllOurs sent rest → NoMixing always (before ++ rest) → Waiting rest b e
        → GivenIn p s rest b e
    wait before [] p s b e w u c = absurd (none-ne-some _ (c.comes 1 (omega arith) (omega arith)))
    wait before (a ∷ rest) p s zero e w u c = start before rest a p s e w u c
    wait before (a ∷ rest) p s (suc b) e w u c =
        let t = wait_more a rest b e c in
        let g = wait (before ++ a ∷ []) rest (suc p) (does p s a).after b (e - 1) (later_ours sent a rest w) (rw append_snoc u) t.1 in
        record { when = suc g.when; from = let q = g.from in omega arith; by = let q = g.by in let h = t.0 in omega arith; given = g.given }

-- places that go up from each line to the next go up from any line to any later one
goes_up : (at : ℕ → ℕ) (n : ℕ) → ((i : ℕ) → 1 ≤ i → i < n → at i < at (i + 1)) → (x y : ℕ) → 1 ≤ x → x < y → y ≤ n → at x < at y
goes_up at n up x zero h l l' = absurd (omega arith)
goes_up at n up x (suc y) h l l' = go (λ u. goes_up at n up x y h u (omega arith)) (ℕ_discrete x y)
  where
    last : y < n → 1 ≤ y → at y < at (suc y)
    last u v = let e : suc y ≡ y + 1 = omega arith in rw e (up y v u)

    go : (x < y → at x < at y) → Dec (x ≡ y) → at x < at (suc y)
    go up_to_lem (yes e) = rw e (last (omega arith) (omega arith))
    go up_to_lem (no d) = omega (arith, up_to_lem (omega arith), last (omega arith) (omega arith))

module _ {S : Type 0} {does : ℕ → S → Arrival → Step S} {fresh : S} (reader : Reader does fresh) (sent : List Message) (sendable : AllSendable sent) where
  pub delivery : Delivery always sent (run_from does fresh)
  delivery arrivals u answers r m several c =
      let g = wait reader sent sendable m several [] arrivals 0 fresh (c.when 1) (c.when (lines_in m)) u.ours u.no_mixing (record {
        at = c.when;
        starts = refl;
        ends = refl;
        comes = c.comes;
        order = goes_up c.when (lines_in m) c.in_order;
        no_first = λ q a l l' e. c.no_first q a l l' e refl;
      }) in
      record { when = g.when; after = g.from; by = g.by; given = rw r g.given }

  alone_at : (m : Message) → lines_in m ≡ 1 → (rest : List Arrival) (p : ℕ) (s : S) → AllOurs sent rest
      → (q : ℕ) → get_elem? rest q ≡ some (line m 1) → get_elem? (answers_from does p s rest) q ≡ some (complete m.payload m.fill)
  alone_at m h [] p s w q e = absurd (none-ne-some _ e)
  alone_at m h (a ∷ rest) p s w zero e =
      let hd : a ≡ line m 1 = some_inj.0 e in
      rw (hd, reader.alone m (sendable m (rw hd at (w a (Memᴰ.head refl)).was_sent)) p s h)
  alone_at m h (a ∷ rest) p s w (suc q) e = alone_at m h rest (suc p) (does p s a).after (later_ours sent a rest w) q e

  pub delivery-alone : DeliveryAlone sent (run_from does fresh)
  delivery-alone arrivals u answers r m h when e = rw r (alone_at m h arrivals 0 fresh u when e)
