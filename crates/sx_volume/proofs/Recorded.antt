-- The record of the calls of a file in memory grows with what the file keeps.
use Rattle.std.proofs.Common.{◌≡◌, ℕ, ◌+◌, ◌-◌, ◌<◌, ◌≤◌, List, [], ◌∷◌, ◌++◌, length, take, drop, refl, sym, ◌∙◌, ap, arith, length-append, append_assoc, get_or}
use Rattle.std.proofs.lemmas.List.{take-append-le, take_all, take_more, drop-append-le, length-drop, length-set, length-take}
use Rattle.sx_volume.specs.Change.{Change, Appended, Put, Pending, settled, after_change, after_changes}
use Rattle.sx_volume.specs.Kept.{change_of, changes_of, count_of, appended_by}
use Rattle.sx_volume.specs.Replay.{pending_after}
use Rattle.sx_volume.specs.Stored.{Stored, pending_of, bytes_in, after_these, puts_of}
use Rattle.sx_volume.specs.declared.mem_file.Call.{Call}
use Rattle.sx_volume.specs.declared.mem_file.Call.TheVariants as call
use Rattle.sx_volume.proofs.Grown.{after_changes-append, after_changes-push}

change_of-append : (call : Call) (bytes piece : List ℕ) → count_of call ≤ length bytes → change_of call (bytes ++ piece) ≡ change_of call bytes
change_of-append (call.Append count) bytes piece le = ap Appended (take-append-le count bytes piece le)
change_of-append (call.PutByte at byte) bytes piece le = refl
change_of-append (call.Cut len) bytes piece le = refl
change_of-append call.Sync bytes piece le = refl

pub changes_of-push : (calls : List Call) (bytes : List ℕ) (call : Call) (piece : List ℕ) → appended_by calls ≡ length bytes → changes_of (calls ++ call ∷ []) (bytes ++ piece) ≡ changes_of calls bytes ++ change_of call piece ∷ []
changes_of-push [] [] call piece whole = refl
changes_of-push [] (b ∷ bytes) call piece whole = absurd (omega (arith, whole))
changes_of-push (x ∷ calls) bytes call piece whole =
    let le : count_of x ≤ length bytes = omega (arith, whole) in
    let rest : changes_of (calls ++ call ∷ []) (drop (count_of x) bytes ++ piece) ≡ changes_of calls (drop (count_of x) bytes) ++ change_of call piece ∷ [] =
    changes_of-push calls (drop (count_of x) bytes) call piece (omega (arith, whole, length-drop (count_of x) bytes)) in
    let first = change_of-append x bytes piece le in
    let behind = ap (changes_of (calls ++ call ∷ [])) (drop-append-le (count_of x) bytes piece le) ∙ rest in
    ap (λ (c : Change). c ∷ changes_of (calls ++ call ∷ []) (drop (count_of x) (bytes ++ piece))) first ∙ ap (λ (cs : List Change). change_of x bytes ∷ cs) behind

appended_by-push : (calls : List Call) (call : Call) → appended_by (calls ++ call ∷ []) ≡ appended_by calls + count_of call
appended_by-push [] call = omega arith
appended_by-push (x ∷ calls) call = omega (arith, appended_by-push calls call)

pub whole_push : (calls more : List Call) (bytes after : List ℕ) (call : Call) (piece : List ℕ) → appended_by calls ≡ length bytes → count_of call ≡ length piece → more ≡ calls ++ call ∷ [] → after ≡ bytes ++ piece → appended_by more ≡ length after
whole_push calls more bytes after call piece whole count pushed grown =
    ap appended_by pushed ∙ appended_by-push calls call ∙ omega (arith, whole, count, length-append bytes piece) ∙ ap length (sym grown)

-- the record of the calls and what is kept grow together
pub replayed_push : (first : List ℕ) (calls more : List Call) (bytes after : List ℕ) (call : Call) (piece : List ℕ) (old new : Pending) → appended_by calls ≡ length bytes → old ≡ pending_after first (changes_of calls bytes)
    → new ≡ after_change old (change_of call piece) → more ≡ calls ++ call ∷ [] → after ≡ bytes ++ piece → new ≡ pending_after first (changes_of more after)
replayed_push first calls more bytes after call piece old new whole replayed is pushed grown =
    is ∙ ap (λ (p : Pending). after_change p (change_of call piece)) replayed ∙ sym (after_changes-push (settled first) (changes_of calls bytes) (change_of call piece))
    ∙ ap (pending_after first) (sym (changes_of-push calls bytes call piece whole) ∙ ap (λ (b : List ℕ). changes_of (calls ++ call ∷ []) b) (sym grown) ∙ ap (λ (c : List Call). changes_of c after) (sym pushed))

pub recorded : (calls more : List Call) (bytes after : List ℕ) (call : Call) (piece : List ℕ) → appended_by calls ≡ length bytes → more ≡ calls ++ call ∷ [] → after ≡ bytes ++ piece → changes_of more after ≡ changes_of calls bytes ++ change_of call piece ∷ []
recorded calls more bytes after call piece whole pushed grown =
    ap (λ (c : List Call). changes_of c after) pushed ∙ ap (λ (b : List ℕ). changes_of (calls ++ call ∷ []) b) grown ∙ changes_of-push calls bytes call piece whole

-- an append takes all of its piece
pub whole_piece : (piece : List ℕ) → change_of (call.Append (length piece)) piece ≡ Appended piece
whole_piece piece = ap Appended (take_all (length piece) piece (omega arith))

puts_of-push : (at : ℕ) (piece : List ℕ) (byte : ℕ) → puts_of at (piece ++ byte ∷ []) ≡ puts_of at piece ++ Put (at + length piece) byte ∷ []
puts_of-push at [] byte = ap (λ (n : ℕ). Put n byte ∷ []) (omega arith)
puts_of-push at (x ∷ piece) byte =
    let place : at + 1 + length piece ≡ at + length (x ∷ piece) = omega arith in
    ap (λ (cs : List Change). Put at x ∷ cs) (puts_of-push (at + 1) piece byte ∙ ap (λ (n : ℕ). puts_of (at + 1) piece ++ Put n byte ∷ []) place)

length-puts : (p : Pending) (at : ℕ) (piece : List ℕ) → length (after_changes p (puts_of at piece)).bytes ≡ length p.bytes
length-puts p at [] = refl
length-puts p at (x ∷ piece) = length-puts (after_change p (Put at x)) (at + 1) piece ∙ length-set p.bytes at x

module _ (file old : Stored) (at : ℕ) (piece : List ℕ) (i : ℕ) (is : old ≡ after_these file (puts_of at (take i piece)) i) where
  -- bytes that are written over leave the length as it was
  pub put_length : length (bytes_in old) ≡ length (bytes_in file)
  put_length =
      ap (λ (f : Stored). length (bytes_in f)) is ∙ ap (λ (p : Pending). length p.bytes) (after_changes-append (settled file.first) file.changes (puts_of at (take i piece)))
      ∙ length-puts (pending_of file) at (take i piece)

  -- one byte more is written over
  pub put_more : (new : Stored) → i < length piece → new ≡ after_these old (Put (at + i) (get_or piece i 0) ∷ []) 1 → new ≡ after_these file (puts_of at (take (i + 1) piece)) (i + 1)
  put_more new inside put =
      let byte = get_or piece i 0 in
      let front : length (take i piece) ≡ i = omega (arith, length-take i piece, inside) in
      let more : take (i + 1) piece ≡ take i piece ++ byte ∷ [] = take_more piece i 0 inside in
      let puts : puts_of at (take (i + 1) piece) ≡ puts_of at (take i piece) ++ Put (at + i) byte ∷ [] =
      ap (puts_of at) more ∙ puts_of-push at (take i piece) byte ∙ ap (λ (n : ℕ). puts_of at (take i piece) ++ Put (at + n) byte ∷ []) front in
      let changes : old.changes ++ Put (at + i) byte ∷ [] ≡ file.changes ++ puts_of at (take (i + 1) piece) =
      ap (λ (f : Stored). f.changes ++ Put (at + i) byte ∷ []) is ∙ append_assoc file.changes (puts_of at (take i piece)) (Put (at + i) byte ∷ []) ∙ ap (λ (cs : List Change). file.changes ++ cs) (sym puts) in
      let room : old.room - 1 ≡ file.room - (i + 1) = omega (arith, ap (λ (f : Stored). f.room) is) in
      let first : old.first ≡ file.first = ap (λ (f : Stored). f.first) is in
      let tally : old.tally ≡ file.tally = ap (λ (f : Stored). f.tally) is in
      put ∙ cc
