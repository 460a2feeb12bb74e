-- What an arrival does to the state, whichever it is, under the premise. Assumes nothing.
use Prim.Native.Nat.{ℕ, ◌+◌, ◌≤◌, ◌<◌}
use native.Mathlib.Omega.{arith}
use native.Mathlib.Decide.{ℕ_discrete}
use mathlib.Core.Path.{◌≡◌, refl, sym, ap, ◌∙◌}
use mathlib.Core.Logic.{◌≢◌}
use mathlib.Core.Bool.{false}
use mathlib.Core.List.{List, Memᴰ}
use lib.Dec.{ltb}
use borrow.Author.Tests.{eq-eqb, ltb-false}
use Rattle.std.specs.Prelude.{Some}
use Rattle.writer.specs.Message.{Message, Sendable, lines_in}
use Rattle.delivery.specs.Delivery.{Arrival, Answer, refused, unfinished, complete, Ours, WasSent, number_on, first_of_several}
use Rattle.delivery.proofs.Lines.{number_several}
use Rattle.delivery.proofs.Reader.{Step, Reader, gives}

-- what an answer may be: if it is complete, it was sent
abbrev pub Fine : List Message → Answer → Type 0
Fine sent (refused n) = Unit {0}
Fine sent unfinished = Unit {0}
Fine sent (complete payload fill) = WasSent sent payload fill

-- every message sent can be sent
abbrev pub AllSendable : List Message → Type 0
AllSendable sent = (m : Message) → Memᴰ m sent → Sendable m

module _ {S : Type 0} {does : ℕ → S → Arrival → Step S} {fresh : S} (reader : Reader does fresh) (sent : List Message) (sendable : AllSendable sent) where
  was_sent : (m : Message) → Memᴰ m sent → WasSent sent m.payload m.fill
  was_sent m h = record { which = m; was_sent = h; its-payload = refl; its-fill = refl }

  -- a first line that is not of several is alone
  is-alone : (a : Arrival) → Ours sent a → first_of_several a ≡ false → a.line ≡ 1 → lines_in a.of ≡ 1
  is-alone a w f e =
      let h : ltb 1 (lines_in a.of) ≡ false = simp (eq-eqb a.line 1 e) at f in
      omega (arith, w.to_last, ltb-false 1 (lines_in a.of) h)

  -- an arrival that leaves the state s as it is, with a fine answer
  pub record Idle (p : ℕ) (s : S) (a : Arrival) : Type 0 where
    pub says : Answer
    pub is : does p s a ≡ gives says s
    pub fine : Fine sent says

  -- a line complete alone
  idle_alone : (p : ℕ) (s : S) (a : Arrival) → Ours sent a → first_of_several a ≡ false → a.line ≡ 1 → Idle p s a
  idle_alone p s a w f e = record {
    says = complete a.of.payload a.of.fill;
    is = rw e (reader.alone a.of (sendable a.of w.was_sent) p s (is-alone a w f e));
    fine = was_sent a.of w.was_sent;
  }

  -- while a fresh state waits for a first line
  pub effect_fresh : (p : ℕ) (a : Arrival) → Ours sent a → first_of_several a ≡ false → Idle p fresh a
  effect_fresh p a w f = go (ℕ_discrete a.line 1)
    where
      go : Dec (a.line ≡ 1) → Idle p fresh a
      go (yes e) = idle_alone p fresh a w f e
      go (no d) = record {
        says = refused 4;
        is = reader.at-fresh a.of (sendable a.of w.was_sent) p a.line (omega (arith, w.from_one)) w.to_last;
        fine = tt;
      }

  module _ (p : ℕ) (m : Message) (several : 1 < lines_in m) (j : ℕ) where
    -- while j lines of m are held: an arrival that starts nothing is the line that is next, or leaves the state as it is
    pub data Effect (a : Arrival) : Type 0 where
      joins : a.of ≡ m → a.line ≡ j + 1 → Effect a
      stays : (a.of ≡ m → a.line ≡ j + 1 → ⊥) → Idle p (reader.held m j) a → Effect a

    module _ (a : Arrival) (w : Ours sent a) (f : first_of_several a ≡ false)
        (same : a.line ≢ 1 → number_on a ≡ Some m.number → a.of ≡ m) where
      its_sendable : Sendable a.of
      its_sendable = sendable a.of w.was_sent

      by-line : Dec (a.line ≡ j + 1) → 2 ≤ a.line → a.of ≡ m → Effect a
      by-line (yes e) h o = joins o e
      by-line (no n) h o =
          stays (λ _ e. n e) (record { says = refused 5; is = rw (← o) (reader.out_of_order a.of its_sendable p j a.line h w.to_last n); fine = tt })

      by_number : Dec (m.number ≡ a.of.number) → 2 ≤ a.line → Effect a
      by_number (yes e) h =
          by-line (ℕ_discrete a.line (j + 1)) h
          (same (omega arith) (number_several a.of a.line (omega (arith, w.to_last)) ∙ ap Some (sym e)))
      by_number (no n) h =
          stays (λ o e. n (ap (λ (x : Message). x.number) (sym o)))
          (record { says = refused 4; is = reader.other-number a.of its_sendable m p j a.line h w.to_last n; fine = tt })

      by_first : Dec (a.line ≡ 1) → Effect a
      by_first (yes e) =
          let l = is-alone a w f e in
          stays (λ o _. let z : lines_in m ≡ 1 = rw o at l in omega arith) (idle_alone p (reader.held m j) a w f e)
      by_first (no d) = by_number (ℕ_discrete m.number a.of.number) (omega (arith, w.from_one))

      pub effect : Effect a
      effect = by_first (ℕ_discrete a.line 1)

  -- the line that is next joins, and the last one hands out the whole
  pub record Advanced (p : ℕ) (m : Message) (j : ℕ) (a : Arrival) : Type 0 where
    pub says : Answer
    pub is : does p (reader.held m j) a ≡ gives says (reader.held m (j + 1))
    pub fine : Fine sent says
    pub in_range : j + 1 ≤ lines_in m
    pub whole : j + 1 ≡ lines_in m → says ≡ complete m.payload m.fill

  pub advance : (p : ℕ) (m : Message) (j : ℕ) → 1 ≤ j → (a : Arrival) → Ours sent a → a.of ≡ m → a.line ≡ j + 1 → Advanced p m j a
  advance p m j h a w o e = go (ℕ_discrete (j + 1) (lines_in m))
    where
      m_sent : Memᴰ m sent
      m_sent = rw o at w.was_sent

      in_range : j + 1 ≤ lines_in m
      in_range = rw (o, e) at w.to_last

      go : Dec (j + 1 ≡ lines_in m) → Advanced p m j a
      go (yes q) = record {
        says = complete m.payload m.fill;
        is = rw (o, e) (reader.last m (sendable m m_sent) p j h q);
        fine = was_sent m m_sent;
        in_range = in_range;
        whole = λ _. refl;
      }
      go (no n) = record {
        says = unfinished;
        is = rw (o, e) (reader.next m (sendable m m_sent) p j h (omega (arith, in_range)));
        fine = tt;
        in_range = in_range;
        whole = λ q. absurd (n q);
      }
