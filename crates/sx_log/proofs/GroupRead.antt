-- A group as it is read: its head, its table, and what breaks a rule there.
use Rattle.std.proofs.Common.{◌≡◌, ◌≢◌, ◌∙◌, ℕ, ◌+◌, ◌*◌, ◌-◌, ◌<◌, ◌≤◌, Bool, true, false, not, List, [], ◌∷◌, ◌++◌, length, take, drop, replicate, Option, None, Some, IfSome, refl, ap, sym, subst, append_assoc, length-append, arith, nat_lt, if◌then◌else◌}
use Rattle.std.proofs.lemmas.Bool.Decides.{nat_tests}
use Rattle.std.proofs.lemmas.List.{drop-drop, take_all, take_at, drop_at, take-append-drop, take-append-le, append-nil, length-drop, length-replicate, length-take, nil_from_length}
use Rattle.std.proofs.lemmas.Slice.Eq.{bytes_eq-Decides}
use Rattle.std.specs.Int.{from_be_bytes, w32}
use Rattle.std.specs.Str.{bytes_eq}
use Rattle.sha2.specs.Sha256.{sha256}
use Rattle.sx_bytes.specs.Front.{front_piece}
use Rattle.sx_bytes.specs.declared.damage.Damage.{Damage}
use Rattle.sx_frame.specs.Violation.{Violation, damage_at, tell}
use Rattle.sx_frame.specs.declared.table.FrameRow.{FrameRow}
use Rattle.sx_layout.proofs.Broken.{broken_behind, broken_there}
use Rattle.sx_layout.proofs.FrameGroups.{group_parts, rules_of, violation_of_head}
use Rattle.sx_layout.proofs.Tables.{length-table_bytes, rows_again}
use Rattle.sx_layout.specs.FrameGroup.{AreRows, FrameGroup, IsRow, frame_group_bytes, group_limit, group_size, head_part, row_bytes, rows_at, table_bytes}
use Rattle.sx_layout.specs.Rule.{first_broken}
use Rattle.sx_layout.specs.Rules.{count_rules, digest_rule, group_violation, head_violation, order_rules, size_rules, table_rules}
use Rattle.sx_log.proofs.Ruled.{none_parts, not_broken, passes, told, told_none, violation_of}
use Rattle.sx_log.specs.Opening.{IsGroupAt, IsPartAt, TellsDamage, part_rules, part_size}
use Rattle.sx_log.specs.declared.log.GroupRow.{GroupRow}
use Rattle.sx_root.proofs.Again.{front_root-again, length-root_bytes}
use Rattle.sx_root.specs.Root.{IsRoot, front_root, mark, root_bytes}
use Rattle.sx_root.specs.declared.root.RevisionRoot.{RevisionRoot}

-- ---- the table

pub table-append : (rows : List FrameRow) (row : FrameRow) (rest : List ℕ) → table_bytes (rows ++ row ∷ []) ++ rest ≡ table_bytes rows ++ (row_bytes row ++ rest)
table-append [] row rest = append_assoc (row_bytes row) [] rest
table-append (first ∷ rows) row rest =
    append_assoc (row_bytes first) (table_bytes (rows ++ row ∷ [])) rest ∙ ap (λ (b : List ℕ). row_bytes first ++ b) (table-append rows row rest)
    ∙ sym (append_assoc (row_bytes first) (table_bytes rows) (row_bytes row ++ rest))

pub rows-append : (rows : List FrameRow) (row : FrameRow) → AreRows rows → IsRow row → AreRows (rows ++ row ∷ [])
rows-append [] row are is = (is, tt)
rows-append (first ∷ rows) row are is = (are.0, rows-append rows row are.1 is)

-- one row more was read
pub row_read : (bytes left rest : List ℕ) (rows : List FrameRow) (row : FrameRow) → bytes ≡ table_bytes rows ++ left → left ≡ row_bytes row ++ rest → bytes ≡ table_bytes (rows ++ row ∷ []) ++ rest
row_read bytes left rest rows row is more = is ∙ ap (λ (b : List ℕ). table_bytes rows ++ b) more ∙ sym (table-append rows row rest)

-- fewer bytes are left than a row has
pub all_rows : (bytes left : List ℕ) (rows : List FrameRow) (frames : ℕ) → length bytes ≡ 36 * frames + 32 → bytes ≡ table_bytes rows ++ left → AreRows rows → length left < 36 → length rows ≡ frames
all_rows bytes left rows frames long is are few = omega (arith, long, ap length is, length-append (table_bytes rows) left, length-table_bytes rows are, few)

-- ---- what was seen

-- the bytes behind a front that was read: those that are told, or any
pub seen_behind : (bytes : Option (List ℕ)) (size place : ℕ) (front : List ℕ) → ((all : List ℕ) → bytes ≡ Some all → length all ≡ size) → place + length front ≤ size → IfSome bytes (λ all. front ≡ take (length front) (drop place all))
    → (rest : List ℕ) × (length (front ++ rest) ≡ size - place) × IfSome bytes (λ all. drop place all ≡ front ++ rest)
seen_behind None size place front whole room read =
    (replicate ((size - place) - length front) 0, omega (arith, length-append front (replicate ((size - place) - length front) 0), length-replicate {A = ℕ} ((size - place) - length front) 0, room), tt)
seen_behind (Some all) size place front whole room read =
    let rest = drop (length front) (drop place all) in
    let same : drop place all ≡ front ++ rest = sym (take-append-drop (length front) (drop place all)) ∙ ap (λ (b : List ℕ). b ++ rest) (sym read) in
    (rest, omega (arith, ap length same, length-drop place all, whole all refl), same)

-- two pieces that were read one behind another
pub both_read : (bytes : Option (List ℕ)) (place long more : ℕ) (front behind : List ℕ) → IfSome bytes (λ all. front ≡ take long (drop place all)) → IfSome bytes (λ all. behind ≡ take more (drop (place + long) all)) → length front ≡ long → length behind ≡ more
    → IfSome bytes (λ all. front ++ behind ≡ take (length (front ++ behind)) (drop place all))
both_read None place long more front behind read also front_long behind_long = tt
both_read (Some all) place long more front behind read also front_long behind_long =
    let there : List ℕ = drop place all in
    let tail : drop long there ≡ drop (place + long) all = drop-drop long place all in
    let whole : there ≡ (front ++ behind) ++ drop more (drop (place + long) all) =
    sym (take-append-drop long there) ∙ (λ i. sym read i ++ tail i) ∙ ap (λ (b : List ℕ). front ++ b) (sym (take-append-drop more (drop (place + long) all)) ∙ ap (λ (b : List ℕ). b ++ drop more (drop (place + long) all)) (sym also))
    ∙ sym (append_assoc front behind (drop more (drop (place + long) all))) in
    sym (ap (λ (b : List ℕ). take (length (front ++ behind)) b) whole ∙ take_at (front ++ behind) (drop more (drop (place + long) all)) (length (front ++ behind)) refl)

-- ---- what breaks a rule

-- fewer bytes than a head has
pub tells_short : (bytes : Option (List ℕ)) (size place : ℕ) (last : RevisionRoot) (damage : Damage) → ((all : List ℕ) → bytes ≡ Some all → length all ≡ size) → place ≤ size → size - place < 48
    → damage ≡ damage_at place (tell 6 (size - place) 48) → TellsDamage bytes place (size - place) last damage
tells_short bytes size place last damage whole room short is =
    let seen = seen_behind bytes size place [] whole (omega (arith, room)) (nothing bytes) in
    let few : nat_lt (length seen.0) 48 ≡ true = grind (arith, nat_tests, seen.1) in
    record {
      seen = seen.0;
      long = seen.1;
      violation = tell 6 (size - place) 48;
      breaks = ap (λ (t : Bool). if t then Some (tell 6 (length seen.0) 48) else head_violation last seen.0 (front_root seen.0)) few ∙ ap (λ n. Some (tell 6 n 48)) seen.1;
      damage_is = is;
      there = seen.2;
    }
  where
    nothing : (b : Option (List ℕ)) → IfSome b (λ all. [] ≡ take 0 (drop place all))
    nothing None = tt
    nothing (Some all) = refl

-- the first bytes are not the mark
no_head : (bytes : List ℕ) → 4 ≤ length bytes → take 4 bytes ≢ mark → front_root bytes ≡ None
unfolding front_root front_piece
no_head bytes long other =
    let enough : nat_lt (length bytes) 4 ≡ false = grind (arith, nat_tests) in
    let differs : bytes_eq (take 4 bytes) mark ≡ false = by (bytes_eq (take 4 bytes) mark) refl in
    rw (enough, differs) refl
  where
    by : (t : Bool) → bytes_eq (take 4 bytes) mark ≡ t → bytes_eq (take 4 bytes) mark ≡ false
    by false is = is
    by true is = absurd (other ((bytes_eq-Decides (take 4 bytes) mark).0 is))

pub tells_mark : (bytes : Option (List ℕ)) (size place : ℕ) (last : RevisionRoot) (head : List ℕ) (damage : Damage) → ((all : List ℕ) → bytes ≡ Some all → length all ≡ size) → length head ≡ 48 → place + 48 ≤ size
    → IfSome bytes (λ all. head ≡ take 48 (drop place all)) → take 4 head ≢ mark → damage ≡ damage_at place (tell 5 (from_be_bytes w32 mark) (from_be_bytes w32 (take 4 head)))
    → TellsDamage bytes place (size - place) last damage
tells_mark bytes size place last head damage whole long room read other is =
    let seen = seen_behind bytes size place head whole (omega (arith, room, long)) (subst (λ n. IfSome bytes (λ all. head ≡ take n (drop place all))) (sym long) read) in
    let all : List ℕ = head ++ seen.0 in
    let first : take 4 all ≡ take 4 head = take-append-le 4 head seen.0 (omega (arith, long)) in
    let more : nat_lt (length all) 48 ≡ false = grind (arith, nat_tests, length-append head seen.0, long) in
    let none : front_root all ≡ None = no_head all (omega (arith, length-append head seen.0, long)) (λ same. other (sym first ∙ same)) in
    record {
      seen = all;
      long = seen.1;
      violation = tell 5 (from_be_bytes w32 mark) (from_be_bytes w32 (take 4 head));
      breaks = ap (λ (t : Bool). if t then Some (tell 6 (length all) 48) else head_violation last all (front_root all)) more ∙ ap (head_violation last all) none
          ∙ ap (λ (b : List ℕ). Some (tell 5 (from_be_bytes w32 mark) (from_be_bytes w32 b))) first;
      damage_is = is;
      there = seen.2;
    }

-- a head was read, and its numbers leave no room
pub tells_size : (bytes : Option (List ℕ)) (size place : ℕ) (last root : RevisionRoot) (damage : Damage) → ((all : List ℕ) → bytes ≡ Some all → length all ≡ size) → IsRoot root → place + 48 ≤ size
    → IfSome bytes (λ all. root_bytes root ≡ take 48 (drop place all)) → told place (size_rules (size - place) root) ≡ Some damage → TellsDamage bytes place (size - place) last damage
tells_size bytes size place last root damage whole is room read tells =
    let long = length-root_bytes root in
    let seen = seen_behind bytes size place (root_bytes root) whole (omega (arith, room, long)) (subst (λ n. IfSome bytes (λ all. root_bytes root ≡ take n (drop place all))) (sym long) read) in
    let all : List ℕ = root_bytes root ++ seen.0 in
    let found = violation_of place (size_rules (size - place) root) damage tells in
    let rest = rules_of last all root (rows_at root.frames seen.0) in
    record {
      seen = all;
      long = seen.1;
      violation = found.0;
      breaks = violation_of_head last root seen.0 all is refl ∙ ap (λ n. first_broken (size_rules n root ++ rest)) seen.1 ∙ broken_there (size_rules (size - place) root) rest found.0 found.1;
      damage_is = found.2;
      there = seen.2;
    }

room_left : (left : ℕ) (root : RevisionRoot) → first_broken (size_rules left root) ≡ None → (group_size root.frames root.body ≤ left) × (group_size root.frames root.body ≤ group_limit)
room_left left root none =
    let size = group_size root.frames root.body in
    let one = passes (nat_lt left size) (tell 6 left size) ((nat_lt group_limit size, tell 6 group_limit size) ∷ []) none in
    let two = not_broken (nat_lt group_limit size) (tell 6 group_limit size) one.1 in
    (grind (arith, nat_tests, one.0), grind (arith, nat_tests, two))

-- a head of 48 bytes is all of them
pub whole_head : (bytes rest : List ℕ) (root : RevisionRoot) → length bytes ≡ 48 → bytes ≡ root_bytes root ++ rest → bytes ≡ root_bytes root
whole_head bytes rest root long is =
    let none : rest ≡ [] = nil_from_length rest (omega (arith, long, ap length is, length-append (root_bytes root) rest, length-root_bytes root)) in
    is ∙ ap (λ (b : List ℕ). root_bytes root ++ b) none ∙ append-nil (root_bytes root)

-- behind a head that was read stands its table
pub part_of_head : (bytes : Option (List ℕ)) (place left count : ℕ) (root : RevisionRoot) → IsRoot root → IfSome bytes (λ all. root_bytes root ≡ take 48 (drop place all)) → first_broken (size_rules left root) ≡ None
    → count ≤ 80 + 36 * root.frames → IsPartAt bytes place left count
part_of_head bytes place left count root is read room few = record { fits = (let size = room_left left root room in omega (arith, size.0, few)); part = by bytes read }
  where
    by : (b : Option (List ℕ)) → IfSome b (λ all. root_bytes root ≡ take 48 (drop place all)) → IfSome b (λ all. count ≤ part_size (front_root (drop place all)))
    by None read = tt
    by (Some all) read =
        let rest : List ℕ = drop 48 (drop place all) in
        let there : drop place all ≡ root_bytes root ++ rest = sym (take-append-drop 48 (drop place all)) ∙ ap (λ (b : List ℕ). b ++ rest) (sym read) in
        subst (λ (h : Option (RevisionRoot × List ℕ)). count ≤ part_size h) (sym (ap front_root there ∙ front_root-again root rest is)) few

-- ---- the whole part that is read

module _ (root : RevisionRoot) (table : List FrameRow) (kept : List ℕ) (is : IsRoot root) (are : AreRows table) (count : length table ≡ root.frames) (kept_long : length kept ≡ 32) where
  abbrev part : List ℕ
  part = root_bytes root ++ (table_bytes table ++ kept)

  abbrev head : List ℕ
  head = root_bytes root ++ table_bytes table

  head_long : length head ≡ 48 + 36 * root.frames
  head_long = omega (arith, length-append (root_bytes root) (table_bytes table), length-root_bytes root, length-table_bytes table are, count)

  grouped : (b : List ℕ) → root_bytes root ++ (table_bytes table ++ b) ≡ head ++ b
  grouped b = sym (append_assoc (root_bytes root) (table_bytes table) b)

  pub part_long : length part ≡ 80 + 36 * root.frames
  part_long = omega (arith, length-append (root_bytes root) (table_bytes table ++ kept), length-append (table_bytes table) kept, length-root_bytes root, length-table_bytes table are, count, kept_long)

  -- the rules that are tested on it are those on all that stands there
  pub same_rules : (last : RevisionRoot) (rest : List ℕ) → group_violation last (part ++ rest) ≡ first_broken (size_rules (length (part ++ rest)) root ++ part_rules last root part table)
  same_rules last rest =
      let all : List ℕ = part ++ rest in
      let tail : List ℕ = table_bytes table ++ (kept ++ rest) in
      let parted : all ≡ root_bytes root ++ tail =
      append_assoc (root_bytes root) (table_bytes table ++ kept) rest ∙ ap (λ (b : List ℕ). root_bytes root ++ b) (append_assoc (table_bytes table) kept rest) in
      let rows : rows_at root.frames tail ≡ table = ap (λ n. rows_at n tail) (sym count) ∙ rows_again table (kept ++ rest) are in
      let n : ℕ = 48 + 36 * root.frames in
      let stored : take 32 (drop n all) ≡ take 32 (drop n part) =
      ap (λ (b : List ℕ). take 32 b) (ap (λ (b : List ℕ). drop n b) (parted ∙ grouped (kept ++ rest)) ∙ drop_at head (kept ++ rest) n head_long) ∙ take_at kept rest 32 kept_long
      ∙ sym (ap (λ (b : List ℕ). take 32 b) (ap (λ (b : List ℕ). drop n b) (grouped kept) ∙ drop_at head kept n head_long) ∙ take_all 32 kept (omega (arith, kept_long))) in
      let computed : take n all ≡ take n part =
      ap (λ (b : List ℕ). take n b) (parted ∙ grouped (kept ++ rest)) ∙ take_at head (kept ++ rest) n head_long ∙ sym (ap (λ (b : List ℕ). take n b) (grouped kept) ∙ take_at head kept n head_long) in
      let digest : digest_rule all n ≡ digest_rule part n = λ i. (not (bytes_eq (stored i) (sha256 (computed i))), record { rule = 1; kept = stored i; found = sha256 (computed i) }) in
      let others = order_rules last root ++ (count_rules last root ++ table_rules root table) in
      violation_of_head last root tail all is parted
      ∙ ap (λ (t : List FrameRow). first_broken (size_rules (length all) root ++ rules_of last all root t)) rows
      ∙ ap (λ (d : Bool × Violation). first_broken (size_rules (length all) root ++ d ∷ others)) digest

-- what was read of a group at a place: its head, and then the table with the digest
pub record IsRead (bytes : Option (List ℕ)) (size place : ℕ) (root : RevisionRoot) (table : List FrameRow) (behind : List ℕ) : Type 0 where
  pub told_size : (all : List ℕ) → bytes ≡ Some all → length all ≡ size
  pub below : place ≤ size
  pub root_is : IsRoot root
  pub rows : AreRows table
  pub count : length table ≡ root.frames
  pub room : first_broken (size_rules (size - place) root) ≡ None
  pub kept : List ℕ
  pub written : behind ≡ table_bytes table ++ kept
  pub long : length behind ≡ 36 * root.frames + 32
  pub head_read : IfSome bytes (λ all. root_bytes root ≡ take 48 (drop place all))
  pub behind_read : IfSome bytes (λ all. behind ≡ take (36 * root.frames + 32) (drop (place + 48) all))

module _ (bytes : Option (List ℕ)) (size place : ℕ) (last root : RevisionRoot) (table : List FrameRow) (behind : List ℕ) (r : IsRead bytes size place root table behind) where
  kept_long : length r.kept ≡ 32
  kept_long = omega (arith, r.long, ap length r.written, length-append (table_bytes table) r.kept, length-table_bytes table r.rows, r.count)

  abbrev parts : List ℕ
  parts = root_bytes root ++ (table_bytes table ++ r.kept)

  parts_are : root_bytes root ++ behind ≡ parts
  parts_are = ap (λ (b : List ℕ). root_bytes root ++ b) r.written

  seen : (rest : List ℕ) × (length (parts ++ rest) ≡ size - place) × IfSome bytes (λ all. drop place all ≡ parts ++ rest)
  seen =
      let room = room_left (size - place) root r.room in
      let long = part_long root table r.kept r.root_is r.rows r.count kept_long in
      let read = both_read bytes place 48 (36 * root.frames + 32) (root_bytes root) behind r.head_read r.behind_read (length-root_bytes root) r.long in
      seen_behind bytes size place parts r.told_size (omega (arith, room.0, long, r.below)) (subst (λ (b : List ℕ). IfSome bytes (λ all. b ≡ take (length b) (drop place all))) parts_are read)

  all_rules : group_violation last (parts ++ seen.0) ≡ first_broken (size_rules (size - place) root ++ part_rules last root (root_bytes root ++ behind) table)
  all_rules =
      same_rules root table r.kept r.root_is r.rows r.count kept_long last seen.0 ∙ ap (λ n. first_broken (size_rules n root ++ part_rules last root parts table)) seen.1
      ∙ ap (λ (b : List ℕ). first_broken (size_rules (size - place) root ++ part_rules last root b table)) (sym parts_are)

  pub tells_part : (damage : Damage) → told place (part_rules last root (root_bytes root ++ behind) table) ≡ Some damage → TellsDamage bytes place (size - place) last damage
  tells_part damage tells =
      let found = violation_of place (part_rules last root (root_bytes root ++ behind) table) damage tells in
      record {
        seen = parts ++ seen.0;
        long = seen.1;
        violation = found.0;
        breaks = all_rules ∙ broken_behind (size_rules (size - place) root) (part_rules last root (root_bytes root ++ behind) table) r.room ∙ found.1;
        damage_is = found.2;
        there = seen.2;
      }

  -- the digest that is kept is right
  digest_is : first_broken (digest_rule (root_bytes root ++ behind) (48 + 36 * root.frames) ∷ []) ≡ None → r.kept ≡ sha256 (head_part root table)
  digest_is none =
      let n : ℕ = 48 + 36 * root.frames in
      let heads = head_part root table in
      let long : length heads ≡ n = omega (arith, length-append (root_bytes root) (table_bytes table), length-root_bytes root, length-table_bytes table r.rows, r.count) in
      let is : root_bytes root ++ behind ≡ heads ++ r.kept = parts_are ∙ sym (append_assoc (root_bytes root) (table_bytes table) r.kept) in
      let stored : take 32 (drop n (root_bytes root ++ behind)) ≡ r.kept =
      ap (λ (b : List ℕ). take 32 (drop n b)) is ∙ ap (λ (b : List ℕ). take 32 b) (drop_at heads r.kept n long) ∙ take_all 32 r.kept (omega (arith, kept_long)) in
      let computed : take n (root_bytes root ++ behind) ≡ heads = ap (λ (b : List ℕ). take n b) is ∙ take_at heads r.kept n long in
      let test = not_broken (digest_rule (root_bytes root ++ behind) n).0 (digest_rule (root_bytes root ++ behind) n).1 none in
      let equal : bytes_eq (take 32 (drop n (root_bytes root ++ behind))) (sha256 (take n (root_bytes root ++ behind))) ≡ true = holds_not _ test in
      sym stored ∙ (bytes_eq-Decides _ _).0 equal ∙ ap sha256 computed
    where
      holds_not : (a : Bool) → not a ≡ false → a ≡ true
      holds_not true is = refl
      holds_not false is = cc

  pub group_at : told place (part_rules last root (root_bytes root ++ behind) table) ≡ None → IsGroupAt bytes place (size - place) last (record { root = root; place = place; table = table })
  group_at none =
      let digest = none_parts (digest_rule (root_bytes root ++ behind) (48 + 36 * root.frames) ∷ []) (order_rules last root ++ (count_rules last root ++ table_rules root table)) (told_none place _ none) in
      let order = none_parts (order_rules last root) (count_rules last root ++ table_rules root table) digest.1 in
      let counts = none_parts (count_rules last root) (table_rules root table) order.1 in
      let room = room_left (size - place) root r.room in
      let rest = seen.0 in
      let body : List ℕ = take root.body rest in
      let group : FrameGroup = record { root = root; table = table; body = body } in
      let long : length rest + (80 + 36 * root.frames) ≡ size - place = omega (arith, seen.1, length-append parts rest, part_long root table r.kept r.root_is r.rows r.count kept_long) in
      let kept = digest_is digest.0 in
      let is : parts ++ rest ≡ frame_group_bytes group ++ drop root.body rest =
      append_assoc (root_bytes root) (table_bytes table ++ r.kept) rest ∙ ap (λ (b : List ℕ). root_bytes root ++ b) (append_assoc (table_bytes table) r.kept rest)
      ∙ (λ i. root_bytes root ++ (table_bytes table ++ (kept i ++ sym (take-append-drop root.body rest) i))) ∙ sym (group_parts group (drop root.body rest)) in
      record {
        group = group;
        row_is = refl;
        fits = record { root = r.root_is; rows = r.rows; frames = r.count; body = omega (arith, length-take root.body rest, long, room.0); size = room.1 };
        room = room.0;
        order = order.0;
        counts = counts.0;
        lengths = counts.1;
        there = with_rest bytes (drop root.body rest) (frame_group_bytes group) (parts ++ rest) is seen.2;
      }
    where
      with_rest : (b : Option (List ℕ)) (rest group all_bytes : List ℕ) → all_bytes ≡ group ++ rest → IfSome b (λ all. drop place all ≡ all_bytes) → IfSome b (λ all. (more : List ℕ) × (drop place all ≡ group ++ more))
      with_rest None rest group all_bytes is there = tt
      with_rest (Some all) rest group all_bytes is there = (rest, there ∙ is)

-- of a group no more was read than its head, its table and the digest
pub part_of_group : (bytes : Option (List ℕ)) (place left count : ℕ) (last : RevisionRoot) (row : GroupRow) → IsGroupAt bytes place left last row → count ≤ 80 + 36 * row.root.frames → IsPartAt bytes place left count
part_of_group bytes place left count last row at few =
    let frames : row.root.frames ≡ at.group.root.frames = ap (λ (r : GroupRow). r.root.frames) at.row_is in
    record { fits = omega (arith, at.room, few, frames); part = by bytes at.there (omega (arith, few, frames)) }
  where
    by : (b : Option (List ℕ)) → IfSome b (λ all. (rest : List ℕ) × (drop place all ≡ frame_group_bytes at.group ++ rest)) → count ≤ 80 + 36 * at.group.root.frames → IfSome b (λ all. count ≤ part_size (front_root (drop place all)))
    by None there few = tt
    by (Some all) there few =
        subst (λ (h : Option (RevisionRoot × List ℕ)). count ≤ part_size h) (sym (ap front_root (there.1 ∙ group_parts at.group there.0) ∙ front_root-again at.group.root _ at.fits.root)) few
