-- A reader is followed over the bytes of its source, step by step.
use Rattle.std.proofs.Common.{◌≡◌, ◌∙◌, ◌⊎◌, ℕ, ◌<◌, true, false, inl, inr, List, [], ◌∷◌, ◌++◌, length, Option, None, Some, refl, ap, sym, subst, append-nil, append_assoc, arith}
use Rattle.std.proofs.lemmas.Bool.{false≢true}
use Rattle.sx_run.specs.Lines.{HasNoFeed, fed, lines_of, ended_lines_of}
use Rattle.sx_run.proofs.Cutting.{HasNoFeed-append, HaveNoFeeds-append, fed-append, lines_of-fed, lines_of-rest, ended_lines_of-fed}
use Rattle.sx_script.specs.Reading.{Holds, HasGiven, GivesNext}
use Rattle.sx_script.specs.Waiting.{Waiting, nothing_taken, nothing_left, kept, IsMoved, IsAtEnd, Ends, GoesOn, IsLast, IsGiven, IsPulled, Keeps, IsUnpulled}
use Rattle.sx_script.specs.declared.line_reader.PullFault.TheVariants.{Failed, OutOfMemory}
use Rattle.sx_script.specs.declared.line_reader.Pulled.{Pulled}
use Rattle.sx_script.specs.declared.line_reader.Pulled.TheVariants.{Line, Long, More, End}
use Rattle.sx_script.proofs.Kept.{kept-append, kept-short, kept-long}

-- ---- the bytes that were taken

kept_none : kept [] ≡ []
unfolding kept
kept_none = refl

-- a new reader
pub holds_nothing : Holds nothing_taken [] []
holds_nothing = record { partial = []; taken_is = refl; no_feeds = tt; no_feed = tt; line_is = sym kept_none; goes_on = refl }

-- what is kept of a longer line
kept_longer : (line partial part longer : List ℕ) → line ≡ kept partial → longer ≡ kept (line ++ part) → longer ≡ kept (partial ++ part)
kept_longer line partial part longer is longer_is = longer_is ∙ ap (λ (l : List ℕ). kept (l ++ part)) is ∙ kept-append partial part

-- one more piece behind what was taken
taken_more : (taken piece front partial rest : List ℕ) → taken ≡ front ++ (partial ++ rest) → taken ++ piece ≡ front ++ (partial ++ (rest ++ piece))
taken_more taken piece front partial rest is =
    ap (λ (t : List ℕ). t ++ piece) is ∙ append_assoc front (partial ++ rest) piece ∙ ap (λ (t : List ℕ). front ++ t) (append_assoc partial rest piece)

-- a front of the bytes went to the line
pub holds_longer : (old new : Waiting) (taken piece front : List ℕ) (lines : List (List ℕ)) → Holds old taken lines → old.rest ++ piece ≡ front ++ new.rest → HasNoFeed front
    → new.line ≡ kept (old.line ++ front) → new.ended ≡ false → Holds new (taken ++ piece) lines
holds_longer old new taken piece front lines holds bytes none longer on = record {
  partial = holds.partial ++ front;
  taken_is = taken_more taken piece (fed lines) holds.partial old.rest holds.taken_is
      ∙ ap (λ (t : List ℕ). fed lines ++ t) (ap (λ (t : List ℕ). holds.partial ++ t) bytes ∙ sym (append_assoc holds.partial front new.rest));
  no_feeds = holds.no_feeds;
  no_feed = HasNoFeed-append holds.partial front holds.no_feed none;
  line_is = kept_longer old.line holds.partial front new.line holds.line_is longer;
  goes_on = on;
}

-- no line ended
pub holds_more : (old new : Waiting) (taken piece : List ℕ) (lines : List (List ℕ)) → Holds old taken lines → GoesOn old (old.rest ++ piece) new → Holds new (taken ++ piece) lines
holds_more old new taken piece lines holds more =
    holds_longer old new taken piece (old.rest ++ piece) lines holds
    (sym (append-nil (old.rest ++ piece)) ∙ ap (λ (t : List ℕ). (old.rest ++ piece) ++ t) (sym more.empty)) more.none more.longer more.goes_on

-- a line ended, of which this is kept
record Gave (line : List ℕ) (new : Waiting) (taken : List ℕ) (lines : List (List ℕ)) : Type 0 where
  whole : List ℕ
  is : line ≡ kept whole
  holds : Holds new taken (lines ++ whole ∷ [])

holds_line : (old new : Waiting) (taken piece line : List ℕ) (lines : List (List ℕ)) → Holds old taken lines → Ends old (old.rest ++ piece) line new → Gave line new (taken ++ piece) lines
holds_line old new taken piece line lines holds ends =
    let whole : List ℕ = holds.partial ++ ends.part in
    record {
      whole = whole;
      is = kept_longer old.line holds.partial ends.part line holds.line_is ends.whole;
      holds = record {
        partial = [];
        taken_is = taken_more taken piece (fed lines) holds.partial old.rest holds.taken_is
            ∙ ap (λ (t : List ℕ). fed lines ++ t) (ap (λ (t : List ℕ). holds.partial ++ t) ends.found ∙ sym (append_assoc holds.partial ends.part (10 ∷ new.rest)))
            ∙ sym (fed-append lines whole new.rest);
        no_feeds = HaveNoFeeds-append lines whole holds.no_feeds (HasNoFeed-append holds.partial ends.part holds.no_feed ends.first);
        no_feed = tt;
        line_is = ends.next ∙ sym kept_none;
        goes_on = ends.goes_on;
      };
    }

-- ---- the end

-- the rest of a text that has no line feed
lines_of-some : (rest : List ℕ) → HasNoFeed rest → 0 < length rest → lines_of rest ≡ rest ∷ []
lines_of-some [] none some = absurd (omega (arith, some))
lines_of-some (byte ∷ rest) none some = lines_of-rest byte rest none

-- the front of the last line, with all that waited behind it
last_taken : (old : Waiting) (taken : List ℕ) (lines : List (List ℕ)) (holds : Holds old taken lines) → HasNoFeed old.rest
    → lines_of taken ≡ lines ++ lines_of (holds.partial ++ old.rest)
last_taken old taken lines holds none = ap (λ (t : List ℕ). lines_of t) holds.taken_is ∙ lines_of-fed lines (holds.partial ++ old.rest) holds.no_feeds

kept_empty : (line : List ℕ) → [] ≡ kept line → line ≡ []
kept_empty line is = sym (kept-short [] line is (omega arith))

kept_some : (line front : List ℕ) → line ≡ kept front → 0 < length line → 0 < length front
kept_some line [] is some = let none : length line ≡ 0 = ap (λ (l : List ℕ). length l) (is ∙ kept_none) in absurd (omega (arith, none, some))
kept_some line (byte ∷ front) is some = omega arith

-- the last line
record GaveLast (line taken : List ℕ) (lines : List (List ℕ)) : Type 0 where
  whole : List ℕ
  is : line ≡ kept whole
  all : lines ++ whole ∷ [] ≡ lines_of taken

holds_last : (old new : Waiting) (taken line : List ℕ) (lines : List (List ℕ)) → Holds old taken lines → IsLast old old.rest line new → 0 < length line → GaveLast line taken lines
holds_last old new taken line lines holds last some =
    let whole : List ℕ = holds.partial ++ old.rest in
    let is = kept_longer old.line holds.partial old.rest line holds.line_is last.whole in
    record {
      whole = whole;
      is = is;
      all = sym (last_taken old taken lines holds last.none
          ∙ ap (λ (more : List (List ℕ)). lines ++ more) (lines_of-some whole (HasNoFeed-append holds.partial old.rest holds.no_feed last.none) (kept_some line whole is some)));
    }

-- no last line
holds_end : (old new : Waiting) (taken : List ℕ) (lines : List (List ℕ)) → Holds old taken lines → IsLast old old.rest [] new → lines ≡ lines_of taken
holds_end old new taken lines holds last =
    let none : holds.partial ++ old.rest ≡ [] = kept_empty (holds.partial ++ old.rest) (kept_longer old.line holds.partial old.rest [] holds.line_is last.whole) in
    sym (last_taken old taken lines holds last.none ∙ ap (λ (rest : List ℕ). lines ++ lines_of rest) none ∙ append-nil lines)

-- ---- steps over the bytes of a source

-- what is left after a piece
record Moves (after : Option (List ℕ)) (piece left : List ℕ) : Type 0 where
  rest : List ℕ
  is : after ≡ Some rest
  parts : left ≡ piece ++ rest

moves : (before after : Option (List ℕ)) (piece left : List ℕ) → before ≡ Some left → IsMoved before piece after → Moves after piece left
moves None after piece left told moved = absurd cc
moves (Some bytes) after piece left told moved =
    let same : bytes ≡ left = cc in
    record { rest = moved.0; is = moved.2; parts = sym same ∙ moved.1 }

at_end_none : (before after : Option (List ℕ)) (left rest : List ℕ) → before ≡ Some left → after ≡ Some rest → IsAtEnd before after → rest ≡ []
at_end_none None after left rest told is end = absurd cc
at_end_none (Some bytes) None left rest told is end = absurd cc
at_end_none (Some bytes) (Some more) left rest told is end = let same : more ≡ rest = cc in sym same ∙ end

-- ended where nothing is left, and only there
ended_left : (old : Waiting) → old ≡ nothing_left → old.ended ≡ false → ⊥
ended_left old is on = let ended : old.ended ≡ true = ap (λ (w : Waiting). w.ended) is in false≢true (sym on ∙ ended)

-- the bytes that were taken
record Took (waiting : Waiting) (input left : List ℕ) (lines : List (List ℕ)) : Type 0 where
  taken : List ℕ
  parts : input ≡ taken ++ left
  holds : Holds waiting taken lines

took : (old : Waiting) (input left : List ℕ) (lines : List (List ℕ)) → HasGiven old input left lines → old.ended ≡ false → Took old input left lines
took old input left lines (inl on) still = record { taken = on.0; parts = on.1; holds = on.2 }
took old input left lines (inr end) still = absurd (ended_left old end.0 still)

-- a longer front was taken
pub moved_on : (new : Waiting) (input taken piece left rest : List ℕ) (lines : List (List ℕ)) → input ≡ taken ++ left → left ≡ piece ++ rest → Holds new (taken ++ piece) lines
    → HasGiven new input rest lines
moved_on new input taken piece left rest lines parts more holds =
    inl (taken ++ piece, parts ∙ ap (λ (t : List ℕ). taken ++ t) more ∙ sym (append_assoc taken piece rest), holds)

-- all was taken
all_taken : (input taken left piece rest : List ℕ) → input ≡ taken ++ left → left ≡ piece ++ rest → piece ≡ [] → rest ≡ [] → taken ≡ input
all_taken input taken left piece rest parts more nothing none =
    let empty : left ≡ [] = more ∙ ap (λ (p : List ℕ). p ++ rest) nothing ∙ none in
    sym (parts ∙ ap (λ (l : List ℕ). taken ++ l) empty ∙ append-nil taken)

-- a line that was given, of which this is kept
record GaveOne (line : List ℕ) (new : Waiting) (input left : List ℕ) (lines : List (List ℕ)) : Type 0 where
  whole : List ℕ
  is : line ≡ kept whole
  given : HasGiven new input left (lines ++ whole ∷ [])

gave_one : (old new : Waiting) (input left piece rest line : List ℕ) (lines : List (List ℕ)) (before after : Option (List ℕ)) → Took old input left lines
    → before ≡ Some left → after ≡ Some rest → left ≡ piece ++ rest → IsGiven old piece (IsAtEnd before after) line new → GaveOne line new input rest lines
gave_one old new input left piece rest line lines before after from told is more (inl ends) =
    let gave = holds_line old new from.taken piece line lines from.holds ends in
    record { whole = gave.whole; is = gave.is; given = moved_on new input from.taken piece left rest (lines ++ gave.whole ∷ []) from.parts more gave.holds }
gave_one old new input left piece rest line lines before after from told is more (inr last) =
    let none = at_end_none before after left rest told is last.3 in
    let gave = holds_last old new from.taken line lines from.holds last.0 last.1 in
    let all = all_taken input from.taken left piece rest from.parts more last.2 none in
    record { whole = gave.whole; is = gave.is; given = inr (last.0.spent, none, gave.all ∙ ap (λ (t : List ℕ). lines_of t) all) }

gives_end : (old new : Waiting) (input left piece rest : List ℕ) (lines : List (List ℕ)) (before after : Option (List ℕ)) → before ≡ Some left → after ≡ Some rest
    → left ≡ piece ++ rest → HasGiven old input left lines → new ≡ nothing_left → piece ≡ []
    → ((old.ended ≡ true) ⊎ ((old.ended ≡ false) × IsLast old old.rest [] new × IsAtEnd before after)) → (new ≡ nothing_left) × (rest ≡ []) × (lines ≡ lines_of input)
gives_end old new input left piece rest lines before after told is more (inl on) spent nothing (inl ended) = absurd (false≢true (sym on.2.goes_on ∙ ended))
gives_end old new input left piece rest lines before after told is more (inr end) spent nothing (inl ended) =
    (spent, sym (more ∙ ap (λ (p : List ℕ). p ++ rest) nothing) ∙ end.1, end.2)
gives_end old new input left piece rest lines before after told is more given spent nothing (inr last) =
    let from = took old input left lines given last.0 in
    let none = at_end_none before after left rest told is last.2 in
    let all = all_taken input from.taken left piece rest from.parts more nothing none in
    (spent, none, holds_end old new from.taken lines from.holds last.1 ∙ ap (λ (t : List ℕ). lines_of t) all)

gives_next : (old new : Waiting) (input left piece rest : List ℕ) (lines : List (List ℕ)) (before after : Option (List ℕ)) (pulled : Pulled) → before ≡ Some left → after ≡ Some rest
    → left ≡ piece ++ rest → HasGiven old input left lines → IsPulled old piece (IsAtEnd before after) pulled new → GivesNext pulled new input rest lines
gives_next old new input left piece rest lines before after (Line line) told is more given step =
    let gave = gave_one old new input left piece rest line lines before after (took old input left lines given step.0) told is more step.2 in
    let same : line ≡ gave.whole = kept-short line gave.whole gave.is step.1 in
    subst (λ (l : List ℕ). HasGiven new input rest (lines ++ l ∷ [])) (sym same) gave.given
gives_next old new input left piece rest lines before after Long told is more given step =
    let gave = gave_one old new input left piece rest step.1 lines before after (took old input left lines given step.0) told is more step.3 in
    (gave.whole, kept-long step.1 gave.whole gave.is step.2, gave.given)
gives_next old new input left piece rest lines before after More told is more given step =
    let from = took old input left lines given step.0 in
    moved_on new input from.taken piece left rest lines from.parts more (holds_more old new from.taken piece lines from.holds step.2)
gives_next old new input left piece rest lines before after End told is more given step =
    gives_end old new input left piece rest lines before after told is more given step.0 step.1 step.2

-- ---- what a caller cites

-- A new reader has given nothing.
pub given_nothing : (input : List ℕ) → HasGiven nothing_taken input input []
given_nothing input = inl ([], refl, holds_nothing)

-- A step gives the next line, or none, or finds the end.
pub follow : (old new : Waiting) (input left piece : List ℕ) (lines : List (List ℕ)) (before after : Option (List ℕ)) (pulled : Pulled) → before ≡ Some left → IsMoved before piece after
    → HasGiven old input left lines → IsPulled old piece (IsAtEnd before after) pulled new → (rest : List ℕ) × (after ≡ Some rest) × GivesNext pulled new input rest lines
follow old new input left piece lines before after pulled told moved given step =
    let at = moves before after piece left told moved in
    (at.rest, at.is, gives_next old new input left piece at.rest lines before after pulled told at.is at.parts given step)

-- Where the source failed, all lines that had ended are given.
pub follow_failed : (old new : Waiting) (input left piece : List ℕ) (lines : List (List ℕ)) (before after : Option (List ℕ)) → before ≡ Some left → IsMoved before piece after
    → HasGiven old input left lines → IsUnpulled old piece Failed new
    → (rest : List ℕ) × (after ≡ Some rest) × HasGiven new input rest lines × (taken : List ℕ) × (input ≡ taken ++ rest) × (lines ≡ ended_lines_of taken)
follow_failed old new input left piece lines before after told moved given step =
    let at = moves before after piece left told moved in
    let from = took old input left lines given step.0 in
    let same : left ≡ at.rest = at.parts ∙ ap (λ (p : List ℕ). p ++ at.rest) step.1 in
    let holds = holds_longer old new from.taken [] old.rest lines from.holds (ap (λ (t : List ℕ). old.rest ++ t) (sym step.2.empty)) step.2.none step.2.longer step.2.goes_on in
    let ended : ended_lines_of from.taken ≡ lines =
    ap (λ (t : List ℕ). ended_lines_of t) from.holds.taken_is
    ∙ ended_lines_of-fed lines (from.holds.partial ++ old.rest) from.holds.no_feeds (HasNoFeed-append from.holds.partial old.rest from.holds.no_feed step.2.none) in (
      at.rest,
      at.is,
      moved_on new input from.taken [] left at.rest lines from.parts same holds,
      from.taken,
      from.parts ∙ ap (λ (l : List ℕ). from.taken ++ l) same,
      sym ended,
    )

-- Where memory ran out nothing is lost.
pub follow_memory : (old new : Waiting) (input left piece : List ℕ) (lines : List (List ℕ)) (before after : Option (List ℕ)) → before ≡ Some left → IsMoved before piece after
    → HasGiven old input left lines → IsUnpulled old piece OutOfMemory new → (rest : List ℕ) × (after ≡ Some rest) × HasGiven new input rest lines
follow_memory old new input left piece lines before after told moved given step =
    let at = moves before after piece left told moved in
    let from = took old input left lines given step.0 in
    let keeps : Keeps old piece new = step.1 in (
      at.rest,
      at.is,
      moved_on new input from.taken piece left at.rest lines from.parts at.parts
          (holds_longer old new from.taken piece keeps.front lines from.holds keeps.bytes keeps.none keeps.longer keeps.goes_on),
    )

-- The lines that were given come first.
pub given_front : (waiting : Waiting) (input left : List ℕ) (lines : List (List ℕ)) → HasGiven waiting input left lines → (more : List (List ℕ)) × (lines_of input ≡ lines ++ more)
given_front waiting input left lines (inl on) = (
  lines_of ((on.2.partial ++ waiting.rest) ++ left),
  ap (λ (t : List ℕ). lines_of t) (on.1 ∙ ap (λ (t : List ℕ). t ++ left) on.2.taken_is ∙ append_assoc (fed lines) (on.2.partial ++ waiting.rest) left)
      ∙ lines_of-fed lines ((on.2.partial ++ waiting.rest) ++ left) on.2.no_feeds,
)
given_front waiting input left lines (inr end) = ([], sym end.2 ∙ sym (append-nil lines))
