-- Faults of ends, and reads that failed.
use Rattle.std.proofs.Common.{◌≡◌, ℕ, zero, suc, ◌<◌, ◌≤◌, ◌+◌, List, [], ◌∷◌, length, get_or, slice_set, refl, ap, sym, subst, arith}
use Rattle.sx_outside.specs.Faults.{Rose}
use Rattle.sx_run.specs.Run.{Client, nobody}
use Rattle.sx_shell.specs.Medium.{AllTell, EndsGoOn, HaveRisen, NoneFailed, NoneRose, Rises, RoseBy}
use Rattle.sx_volume.specs.declared.end.ReadEnd.{Ghosts}

-- a count that rose so often, and then once more
rose_again : (n before mid now : ℕ) → RoseBy n before mid → Rose mid now → RoseBy (n + 1) before now
rose_again n before mid now risen rose = omega (arith, risen, rose)

rose_still : (n before mid now : ℕ) → RoseBy n before mid → mid ≤ now → RoseBy n before now
rose_still n before mid now risen more = omega (arith, risen, more)

module _ {S E : Type 0} (e : Ghosts E S) where
  pub ends_same : (ends : List E) → EndsGoOn e ends ends
  ends_same [] = tt
  ends_same (end ∷ ends) = (omega arith, λ tells. tells, ends_same ends)

  pub ends_then : (a b c : List E) → EndsGoOn e a b → EndsGoOn e b c → EndsGoOn e a c
  ends_then [] [] [] one two = tt
  ends_then [] [] (z ∷ c) one two = absurd two
  ends_then [] (y ∷ b) c one two = absurd one
  ends_then (x ∷ a) [] c one two = absurd one
  ends_then (x ∷ a) (y ∷ b) [] one two = absurd two
  ends_then (x ∷ a) (y ∷ b) (z ∷ c) one two = (let p = one.0 in let q = two.0 in omega (arith, p, q), λ tells. two.1 (one.1 tells), ends_then a b c one.2 two.2)

  pub ends_length : (a b : List E) → EndsGoOn e a b → length b ≡ length a
  ends_length [] [] on = refl
  ends_length [] (y ∷ b) on = absurd on
  ends_length (x ∷ a) [] on = absurd on
  ends_length (x ∷ a) (y ∷ b) on = ap (λ (n : ℕ). suc n) (ends_length a b on.2)

  pub tell_on : (a b : List E) → EndsGoOn e a b → AllTell e a → AllTell e b
  tell_on [] [] on tell = tt
  tell_on [] (y ∷ b) on tell = absurd on
  tell_on (x ∷ a) [] on tell = absurd on
  tell_on (x ∷ a) (y ∷ b) on tell = (on.1 tell.0, tell_on a b on.2 tell.1)

  -- one end went on
  pub end_on : (ends : List E) (i : ℕ) (old new : E) → i < length ends → old ≡ get_or ends i old → e.faults old ≤ e.faults new → (e.tells old → e.tells new) → EndsGoOn e ends (slice_set ends i new)
  end_on [] i old new lt is more tells = tt
  end_on (end ∷ ends) zero old new lt is more tells =
      subst (λ (x : E). (e.faults x ≤ e.faults new) × (e.tells x → e.tells new) × EndsGoOn e ends ends) is (more, tells, ends_same ends)
  end_on (end ∷ ends) (suc i) old new lt is more tells = (omega arith, λ same. same, end_on ends i old new (omega (arith, lt)) is more tells)

  pub tells_at : (ends : List E) (i : ℕ) (old : E) → i < length ends → old ≡ get_or ends i old → AllTell e ends → e.tells old
  tells_at [] i old lt is tell = absurd (omega (arith, lt))
  tells_at (end ∷ ends) zero old lt is tell = subst (λ (x : E). e.tells x) (sym is) tell.0
  tells_at (end ∷ ends) (suc i) old lt is tell = tells_at ends i old (omega (arith, lt)) is tell.1

  -- ---- reads that failed

  pub risen_on : (firsts olds news : List E) (clients : List Client) → EndsGoOn e olds news → HaveRisen e firsts clients olds → HaveRisen e firsts clients news
  risen_on [] [] [] [] on risen = tt
  risen_on [] [] (new ∷ news) [] on risen = absurd on
  risen_on [] (old ∷ olds) news [] on risen = absurd risen
  risen_on [] olds news (client ∷ clients) on risen = absurd risen
  risen_on (first ∷ firsts) olds news [] on risen = absurd risen
  risen_on (first ∷ firsts) [] news (client ∷ clients) on risen = absurd risen
  risen_on (first ∷ firsts) (old ∷ olds) [] (client ∷ clients) on risen = absurd on
  risen_on (first ∷ firsts) (old ∷ olds) (new ∷ news) (client ∷ clients) on risen =
      (rose_still client.failed (e.faults first) (e.faults old) (e.faults new) risen.0 on.0, risen_on firsts olds news clients on.2 risen.1)

  -- no read failed
  pub rises_still : (olds news : List E) (clients : List Client) → EndsGoOn e olds news → Rises e olds news clients clients
  rises_still olds news clients on = λ firsts risen. risen_on firsts olds news clients on risen

  -- the same, of clients for which as many failed
  risen_same : (firsts ends : List E) (clients : List Client) (i : ℕ) (now : Client) → now.failed ≡ (get_or clients i nobody).failed → HaveRisen e firsts clients ends → HaveRisen e firsts (slice_set clients i now) ends
  risen_same firsts ends [] i now is risen = risen
  risen_same [] ends (client ∷ clients) i now is risen = absurd risen
  risen_same (first ∷ firsts) [] (client ∷ clients) i now is risen = absurd risen
  risen_same (first ∷ firsts) (end ∷ ends) (client ∷ clients) zero now is risen = (subst (λ (n : ℕ). RoseBy n (e.faults first) (e.faults end)) (sym is) risen.0, risen.1)
  risen_same (first ∷ firsts) (end ∷ ends) (client ∷ clients) (suc i) now is risen = (risen.0, risen_same firsts ends clients i now is risen.1)

  pub rises_client : (ends : List E) (clients : List Client) (i : ℕ) (now : Client) → now.failed ≡ (get_or clients i nobody).failed → Rises e ends ends clients (slice_set clients i now)
  rises_client ends clients i now is = λ firsts risen. risen_same firsts ends clients i now is risen

  -- the read of one failed
  risen_more : (firsts ends : List E) (clients : List Client) (i : ℕ) (old new : E) (now : Client) → i < length ends → old ≡ get_or ends i old → Rose (e.faults old) (e.faults new)
      → now.failed ≡ (get_or clients i nobody).failed + 1 → HaveRisen e firsts clients ends → HaveRisen e firsts (slice_set clients i now) (slice_set ends i new)
  risen_more firsts [] clients i old new now lt is rose failed risen = absurd (omega (arith, lt))
  risen_more [] (end ∷ ends) [] i old new now lt is rose failed risen = absurd risen
  risen_more [] (end ∷ ends) (client ∷ clients) i old new now lt is rose failed risen = absurd risen
  risen_more (first ∷ firsts) (end ∷ ends) [] i old new now lt is rose failed risen = absurd risen
  risen_more (first ∷ firsts) (end ∷ ends) (client ∷ clients) zero old new now lt is rose failed risen =
      let from_end : Rose (e.faults end) (e.faults new) = subst (λ (x : E). Rose (e.faults x) (e.faults new)) is rose in
      (subst (λ (n : ℕ). RoseBy n (e.faults first) (e.faults new)) (sym failed) (rose_again client.failed (e.faults first) (e.faults end) (e.faults new) risen.0 from_end), risen.1)
  risen_more (first ∷ firsts) (end ∷ ends) (client ∷ clients) (suc i) old new now lt is rose failed risen =
      (risen.0, risen_more firsts ends clients i old new now (omega (arith, lt)) is rose failed risen.1)

  pub rises_failed : (ends : List E) (clients : List Client) (i : ℕ) (old new : E) (now : Client) → i < length ends → old ≡ get_or ends i old → Rose (e.faults old) (e.faults new)
      → now.failed ≡ (get_or clients i nobody).failed + 1 → Rises e ends (slice_set ends i new) clients (slice_set clients i now)
  rises_failed ends clients i old new now lt is rose failed = λ firsts risen. risen_more firsts ends clients i old new now lt is rose failed risen

  -- ---- the start and the end of a run

  pub none_yet : (ends : List E) (clients : List Client) → length clients ≡ length ends → NoneFailed clients → HaveRisen e ends clients ends
  none_yet [] [] count none = tt
  none_yet [] (client ∷ clients) count none = absurd (omega (arith, count))
  none_yet (end ∷ ends) [] count none = absurd (omega (arith, count))
  none_yet (end ∷ ends) (client ∷ clients) count none =
      (subst (λ (n : ℕ). RoseBy n (e.faults end) (e.faults end)) (sym none.0) (omega arith), none_yet ends clients (omega (arith, count)) none.1)

  none_by : (n before now : ℕ) → RoseBy n before now → (Rose before now → ⊥) → n ≡ 0
  none_by zero before now risen none = refl
  none_by (suc n) before now risen none = absurd (none (omega (arith, risen)))

  pub none_failed : (firsts ends : List E) (clients : List Client) → HaveRisen e firsts clients ends → NoneRose e firsts ends → NoneFailed clients
  none_failed firsts ends [] risen none = tt
  none_failed [] ends (client ∷ clients) risen none = absurd risen
  none_failed (first ∷ firsts) [] (client ∷ clients) risen none = absurd risen
  none_failed (first ∷ firsts) (end ∷ ends) (client ∷ clients) risen none =
      (none_by client.failed (e.faults first) (e.faults end) risen.0 none.0, none_failed firsts ends clients risen.1 none.1)
