-- Steps of reading.
use Rattle.std.proofs.Common.{◌≡◌, ◌∙◌, ℕ, ◌≤◌, false, inl, inr, List, [], ◌∷◌, ◌++◌, length, Option, None, Some, refl, ap, sym, subst, append-nil, append_assoc, arith}
use Rattle.sx_run.proofs.Cutting.{HasNoFeed-append}
use Rattle.sx_script.specs.Waiting.{Waiting, kept, IsMoved, Ends, GoesOn, IsGiven, IsPulled, Keeps, IsWhole, IsCut, IsEnd}
use Rattle.sx_script.proofs.Kept.{kept_whole, kept-append}
use Rattle.sx_script.specs.declared.line_reader.Pulled.{Pulled}
use Rattle.sx_script.specs.declared.line_reader.Pulled.TheVariants.{Line, Long, More, End}

-- a source that is not called stays
pub moved_nothing : (left : Option (List ℕ)) → IsMoved left [] left
moved_nothing None = tt
moved_nothing (Some bytes) = (bytes, refl, refl)

-- a line that is given was pulled
pulled_given : (old : Waiting) (piece : List ℕ) (at_end : Type 0) (pulled : Pulled) (new : Waiting) (line : List ℕ)
    → old.ended ≡ false → IsWhole pulled line → IsGiven old piece at_end line new → IsPulled old piece at_end pulled new
pulled_given old piece at_end (Line bytes) new line on whole given =
    let same : line ≡ bytes = sym whole.0 in
    (on, subst (λ (l : List ℕ). length l ≤ 8388608) same whole.1, subst (λ (l : List ℕ). IsGiven old piece at_end l new) same given)
pulled_given old piece at_end Long new line on whole given = (on, line, whole, given)
pulled_given old piece at_end More new line on whole given = absurd whole
pulled_given old piece at_end End new line on whole given = absurd whole

-- a line that waited
pub pulled_waiting : (old : Waiting) (at_end : Type 0) (pulled : Pulled) (new : Waiting) → old.ended ≡ false → IsCut old (Some pulled) new → IsPulled old [] at_end pulled new
pulled_waiting old at_end pulled new on cut =
    pulled_given old [] at_end pulled new cut.0 on cut.1
    (inl (subst (λ (bytes : List ℕ). Ends old bytes cut.0 new) (sym (append-nil old.rest)) cut.2))

-- what goes on from what went on
longer_again : (old mid : Waiting) (part line : List ℕ) → GoesOn old old.rest mid → line ≡ kept (mid.line ++ part) → line ≡ kept (old.line ++ (old.rest ++ part))
longer_again old mid part line first is =
    is ∙ ap (λ (l : List ℕ). kept (l ++ part)) first.longer ∙ kept-append (old.line ++ old.rest) part
    ∙ ap (λ (l : List ℕ). kept l) (append_assoc old.line old.rest part)

-- a line that ended in the piece that was taken
pub pulled_filled : (old mid filled : Waiting) (at_end : Type 0) (pulled : Pulled) (new : Waiting) → GoesOn old old.rest mid → old.ended ≡ false → filled.line ≡ mid.line
    → IsCut filled (Some pulled) new → IsPulled old filled.rest at_end pulled new
pulled_filled old mid filled at_end pulled new first on same cut =
    let ends = cut.2 in
    pulled_given old filled.rest at_end pulled new cut.0 on cut.1
    (inl (record {
      part = old.rest ++ ends.part;
      found = ap (λ (bytes : List ℕ). old.rest ++ bytes) ends.found ∙ sym (append_assoc old.rest ends.part (10 ∷ new.rest));
      first = HasNoFeed-append old.rest ends.part first.none ends.first;
      whole = longer_again old mid ends.part cut.0 first (ends.whole ∙ ap (λ (l : List ℕ). kept (l ++ ends.part)) same);
      next = ends.next;
      goes_on = ends.goes_on;
    }))

-- no line ended in the piece that was taken
pub gone_on : (old mid filled new : Waiting) → GoesOn old old.rest mid → filled.line ≡ mid.line → GoesOn filled filled.rest new → GoesOn old (old.rest ++ filled.rest) new
gone_on old mid filled new first same again = record {
  none = HasNoFeed-append old.rest filled.rest first.none again.none;
  longer = longer_again old mid filled.rest new.line first (again.longer ∙ ap (λ (l : List ℕ). kept (l ++ filled.rest)) same);
  empty = again.empty;
  goes_on = again.goes_on;
}

-- the source gave nothing
pub pulled_last : (old mid filled : Waiting) (at_end : Type 0) (pulled : Pulled) (new : Waiting) → GoesOn old old.rest mid → old.ended ≡ false → filled.line ≡ mid.line
    → at_end → IsEnd filled pulled new → IsPulled old [] at_end pulled new
pulled_last old mid filled at_end (Line bytes) new first on same end last =
    pulled_given old [] at_end (Line bytes) new filled.line on last.0
    (inr (record { none = first.none; whole = same ∙ first.longer; spent = last.2 }, last.1, refl, end))
pulled_last old mid filled at_end Long new first on same end last =
    pulled_given old [] at_end Long new filled.line on last.0
    (inr (record { none = first.none; whole = same ∙ first.longer; spent = last.1 }, omega (arith, last.0), refl, end))
pulled_last old mid filled at_end More new first on same end last = absurd last
pulled_last old mid filled at_end End new first on same end last =
    (last.1, refl, inr (on, record { none = first.none; whole = sym last.0 ∙ same ∙ first.longer; spent = last.1 }, end))

-- want of memory before a call of the source
pub keeps_all : (old : Waiting) → length old.line ≤ 8388609 → old.ended ≡ false → Keeps old [] old
keeps_all old within on = record {
  front = [];
  bytes = append-nil old.rest;
  none = tt;
  longer = sym (kept_whole old.line within) ∙ ap (λ (l : List ℕ). kept l) (sym (append-nil old.line));
  goes_on = on;
}

-- no line was found
pub cut_none : (old : Waiting) (found : Option Pulled) (new : Waiting) → ((pulled : Pulled) → found ≡ Some pulled → ⊥) → IsCut old found new → GoesOn old old.rest new
cut_none old None new never cut = cut
cut_none old (Some pulled) new never cut = absurd (never pulled refl)
