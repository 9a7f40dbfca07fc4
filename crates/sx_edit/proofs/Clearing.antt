-- Trees taken away, one node after the other.
use Rattle.std.proofs.Common.{◌≡◌, ℕ, ◌+◌, ◌-◌, ◌≤◌, cond, List, [], ◌∷◌, ◌++◌, Option, Some, None, refl, sym, ap, subst, ◌∙◌, arith, append_assoc, append-nil}
use Rattle.std.specs.Prelude.{option_map, map, IfSome}
use Rattle.std.specs.Option.{option_or, ForSome}
use Rattle.std.specs.FinMap as fin
use Rattle.sx_tree.specs.declared.record.Kind.{Kind}
use Rattle.sx_tree.specs.declared.record.Step.{Step}
use Rattle.sx_tree.specs.declared.record.NodeRecord.{NodeRecord}
use Rattle.sx_view.specs.Records.{RecordMap}
use Rattle.sx_model.specs.Tree.{Forest, no_trees, tree_then, numbers, size}
use Rattle.sx_model.specs.Records.{Around, NodeRow, PathRow, around_children, first_of, row, rows}
use Rattle.sx_model.proofs.Holes.{or_none}
use Rattle.sx_edit.specs.Pathways.{HasAll, IsNodeOut, Kept, Lists, ListsSome, kept, more_on, own_of, own_path, paths_under}
use Rattle.sx_edit.specs.Told.{Shows, ShowsPieces, Piece, BeginWith, sizes, piece_paths, piece_rows, numbers_of, IsWalked, IsDiscounted}
use Rattle.sx_edit.specs.Links.{LeadsTo, first_tops, with_top}
use Rattle.sx_edit.specs.Seen.{without}
use Rattle.std.specs.Option.{option_to_list}
use Rattle.std.proofs.lemmas.List.{reverse-append}
use Rattle.sx_edit.specs.declared.clear.Link.{Link}
use Rattle.sx_edit.specs.Clear.{AllLead, tops_of}
use Rattle.sx_edit.specs.Mend.{IsLeftOut, IsTakenOut, IsUprooted, ShowsBelow}
use Rattle.sx_edit.proofs.Climbing.{numbers-rows, some_is}
use Rattle.sx_edit.proofs.Batching.{shows-without, without-last}
use Rattle.sx_edit.proofs.Pathing.{all-back, all-front, lists-as, more-append, more-none, more-swap, path-by}
use Rattle.sx_edit.proofs.Showing.{shows-get, shows-drop}

abbrev with_piece : Around → Forest → List Piece → List Piece
with_piece around no_trees pieces = pieces
with_piece around (tree_then n below rest) pieces = (around, tree_then n below rest) ∷ pieces

begin-with_piece : (around : Around) (trees : Forest) (pieces : List Piece) (ks : List ℕ) → around.right ≡ None → BeginWith pieces ks
    → BeginWith (with_piece around trees pieces) (with_top (first_of trees) ks)
begin-with_piece around no_trees pieces ks last begin = begin
begin-with_piece around (tree_then n below rest) pieces ks last begin = (refl, last, begin)

rows-with_piece : (local : Kind → List ℕ → ℕ) (number : List Step → ℕ) (around : Around) (trees : Forest) (pieces : List Piece)
    → piece_rows local number (with_piece around trees pieces) ≡ rows local number around trees ++ piece_rows local number pieces
rows-with_piece local number around no_trees pieces = refl
rows-with_piece local number around (tree_then n below rest) pieces = refl

paths-with_piece : (around : Around) (trees : Forest) (pieces : List Piece) → piece_paths (with_piece around trees pieces) ≡ paths_under around trees ++ piece_paths pieces
paths-with_piece around no_trees pieces = refl
paths-with_piece around (tree_then n below rest) pieces = refl

sizes-with_piece : (around : Around) (trees : Forest) (pieces : List Piece) → sizes (with_piece around trees pieces) ≡ size trees + sizes pieces
sizes-with_piece around no_trees pieces = omega arith
sizes-with_piece around (tree_then n below rest) pieces = refl

pub walked-none : (limit : ℕ) (o : Option (RecordMap NodeRecord)) → IsWalked [] limit o []
unfolding IsWalked
walked-none limit o local number [] xs ys begin few shows = refl
walked-none limit o local number (piece ∷ pieces) xs ys begin few shows = absurd begin

-- the records show no trees that begin with these numbers, of so many nodes at most
unfoldable pub IsNoPiece : List ℕ → ℕ → Option (RecordMap NodeRecord) → Type 0
IsNoPiece tops limit o =
    (local : Kind → List ℕ → ℕ) (number : List Step → ℕ) (pieces : List Piece) (xs ys : List (ℕ × NodeRow)) → BeginWith pieces tops → sizes pieces ≤ limit
    → Shows o (xs ++ (piece_rows local number pieces ++ ys)) → ⊥

-- what is left where no more may be visited
pub walked-endless : (k : ℕ) (ks : List ℕ) (o : Option (RecordMap NodeRecord)) → IsNoPiece (k ∷ ks) 0 o
unfolding IsNoPiece
walked-endless k ks o local number [] xs ys begin few shows = begin
walked-endless k ks o local number ((around, no_trees) ∷ pieces) xs ys begin few shows = let e : None ≡ Some k = begin.0 in cc
walked-endless k ks o local number ((around, tree_then n below rest) ∷ pieces) xs ys begin few shows = omega arith

pub walked-absent : (k limit : ℕ) (ks : List ℕ) (o : Option (RecordMap NodeRecord)) → ForSome o (λ m. fin.get m k ≡ None) → IsNoPiece (k ∷ ks) limit o
unfolding IsNoPiece
walked-absent k limit ks o none local number [] xs ys begin few shows = begin
walked-absent k limit ks o none local number ((around, no_trees) ∷ pieces) xs ys begin few shows = let e : None ≡ Some k = begin.0 in cc
walked-absent k limit ks o none local number ((around, tree_then n below rest) ∷ pieces) xs ys begin few shows =
    let e : Some n.number ≡ Some k = begin.0 in
    let same : k ≡ n.number = cc in
    let there : ForSome o (λ m. None ≡ fin.get m n.number) = rw same at (λ (m : RecordMap NodeRecord) (e : o ≡ Some m). sym (none m e)) in
    let both = shows-get o None xs _ n.number _ (subst (λ l. Shows o (xs ++ l)) (refl {a = piece_rows local number ((around, tree_then n below rest) ∷ pieces) ++ ys}) shows) there in
    cc

-- The first node of the pieces was visited: what is left, and what its record tells.
record IsPopped (local : Kind → List ℕ → ℕ) (number : List Step → ℕ) (pieces : List Piece) (k fewer : ℕ) (ks : List ℕ) (r : NodeRecord) (o : Option (RecordMap NodeRecord)) (xs ys : List (ℕ × NodeRow)) : Type 0 where
  here : ℕ × NodeRow
  steps : List Step
  left : List Piece
  begin : BeginWith left (with_top r.first (with_top r.right ks))
  few : sizes left ≤ fewer
  shows : Shows o ((xs ++ here ∷ []) ++ (piece_rows local number left ++ ys))
  numbers_are : numbers_of (piece_rows local number pieces) ≡ k ∷ numbers_of (piece_rows local number left)
  path : r.path ≡ number steps
  paths_are : piece_paths pieces ≡ own_of r.kind steps ++ piece_paths left

popped : (k limit fewer : ℕ) (ks : List ℕ) (r : NodeRecord) (o : Option (RecordMap NodeRecord)) → ForSome o (λ m. fin.get m k ≡ Some r) → limit - 1 ≡ fewer
    → (local : Kind → List ℕ → ℕ) (number : List Step → ℕ) (pieces : List Piece) (xs ys : List (ℕ × NodeRow)) → BeginWith pieces (k ∷ ks) → sizes pieces ≤ limit
    → Shows o (xs ++ (piece_rows local number pieces ++ ys)) → IsPopped local number pieces k fewer ks r o xs ys
popped k limit fewer ks r o found one_less local number [] xs ys begin few shows = absurd begin
popped k limit fewer ks r o found one_less local number ((around, no_trees) ∷ pieces) xs ys begin few shows = absurd (let e : None ≡ Some k = begin.0 in cc)
popped k limit fewer ks r o found one_less local number ((around, tree_then n below rest) ∷ pieces) xs ys begin few shows =
    let e : Some n.number ≡ Some k = begin.0 in
    let same : k ≡ n.number = cc in
    let there : ForSome o (λ m. Some r ≡ fin.get m n.number) = rw same at (λ (m : RecordMap NodeRecord) (e : o ≡ Some m). sym (found m e)) in
    let inner : Around = around_children around n in
    let beyond : Around = record around { left = Some n.number } in
    let rows_below : List (ℕ × NodeRow) = rows local number inner below in
    let rows_rest : List (ℕ × NodeRow) = rows local number beyond rest in
    let others : List (ℕ × NodeRow) = piece_rows local number pieces in
    let here : NodeRow = row local number (record around { right = option_or (first_of rest) around.right }) n below in
    let regrouped : ((n.number, here) ∷ (rows_below ++ rows_rest)) ++ others ++ ys ≡ (n.number, here) ∷ ((rows_below ++ (rows_rest ++ others)) ++ ys) = simp append_assoc in
    let shows_here : Shows o (xs ++ (n.number, here) ∷ ((rows_below ++ (rows_rest ++ others)) ++ ys)) = subst (λ l. Shows o (xs ++ l)) regrouped shows in
    let known = some_is _ _ (shows-get o (Some r) xs _ n.number here shows_here there) in
    let right : first_of rest ≡ r.right = sym (ap (λ (w : NodeRow). w.right) known ∙ ap (option_or (first_of rest)) begin.1 ∙ or_none _) in
    let first : first_of below ≡ r.first = sym (ap (λ (w : NodeRow). w.first) known) in
    let kind : n.kind ≡ r.kind = sym (ap (λ (w : NodeRow). w.kind) known) in
    let left : List Piece = with_piece inner below (with_piece beyond rest pieces) in
    let rows_left : piece_rows local number left ≡ rows_below ++ (rows_rest ++ others) =
    rows-with_piece local number inner below (with_piece beyond rest pieces) ∙ ap (λ l. rows_below ++ l) (rows-with_piece local number beyond rest pieces) in
    let paths_left : piece_paths left ≡ paths_under inner below ++ (paths_under beyond rest ++ piece_paths pieces) =
    paths-with_piece inner below (with_piece beyond rest pieces) ∙ ap (λ l. paths_under inner below ++ l) (paths-with_piece beyond rest pieces) in
    let paths_own : piece_paths ((around, tree_then n below rest) ∷ pieces) ≡ own_of n.kind (own_path around n) ++ (paths_under inner below ++ (paths_under beyond rest ++ piece_paths pieces)) = simp append_assoc in
    let begin_left : BeginWith left (with_top r.first (with_top r.right ks)) =
    subst (λ a. BeginWith left (with_top a (with_top r.right ks))) first
    (begin-with_piece inner below (with_piece beyond rest pieces) (with_top r.right ks) refl
    (subst (λ a. BeginWith (with_piece beyond rest pieces) (with_top a ks)) right (begin-with_piece beyond rest pieces ks begin.1 begin.2))) in
    let many : sizes left ≡ size below + (size rest + sizes pieces) =
    sizes-with_piece inner below (with_piece beyond rest pieces) ∙ ap (λ z. size below + z) (sizes-with_piece beyond rest pieces) in
    let group : xs ++ (n.number, here) ∷ ((rows_below ++ (rows_rest ++ others)) ++ ys) ≡ (xs ++ (n.number, here) ∷ []) ++ ((rows_below ++ (rows_rest ++ others)) ++ ys) = simp append_assoc in
    record {
      here = (n.number, here);
      steps = own_path around n;
      left = left;
      begin = begin_left;
      few = omega arith;
      shows = subst (λ l. Shows o ((xs ++ (n.number, here) ∷ []) ++ (l ++ ys))) (sym rows_left) (subst (Shows o) group shows_here);
      numbers_are = (λ i. sym same i ∷ numbers_of (append_assoc rows_below rows_rest others i)) ∙ ap (λ l. k ∷ numbers_of l) (sym rows_left);
      path = ap (λ (w : NodeRow). w.path) known;
      paths_are = paths_own ∙ (λ i. own_of (kind i) (own_path around n) ++ sym paths_left i);
    }

pub walked-more : (k limit fewer : ℕ) (ks : List ℕ) (r : NodeRecord) (o : Option (RecordMap NodeRecord)) (rest : List ℕ) → ForSome o (λ m. fin.get m k ≡ Some r) → limit - 1 ≡ fewer
    → IsWalked (with_top r.first (with_top r.right ks)) fewer o rest → IsWalked (k ∷ ks) limit o (k ∷ rest)
unfolding IsWalked
walked-more k limit fewer ks r o rest found one_less more local number pieces xs ys begin few shows =
    let next = popped k limit fewer ks r o found one_less local number pieces xs ys begin few shows in
    ap (λ l. k ∷ l) (more local number next.left (xs ++ next.here ∷ []) ys next.begin next.few next.shows) ∙ sym next.numbers_are

-- ---- counts

-- where there were no such trees, there is nothing to count
pub discounted-cannot : (tops : List ℕ) (limit : ℕ) (before : Kept) → IsNoPiece tops limit before.told → IsDiscounted tops limit before None
unfolding IsNoPiece IsDiscounted
discounted-cannot tops limit before none listed count pieces shown lists = absurd (none shown.local shown.number pieces shown.front shown.back shown.begin shown.few shown.shows)

pub discounted-none : (limit : ℕ) (before : Kept) → IsDiscounted [] limit before (Some before.table)
unfolding IsDiscounted
discounted-none limit before listed count [] shown lists = lists-as before.table listed _ count (more-none count) lists
discounted-none limit before listed count (piece ∷ pieces) shown lists = absurd shown.begin

-- the first node of the pieces is no longer counted
record IsUncounted (goals : List ℕ) (fewer : ℕ) (o : Option (RecordMap NodeRecord)) (listed : List (List Step)) (count : List Step → ℕ) (mid : Option (List PathRow)) : Type 0 where
  left : List Piece
  shown : ShowsPieces o goals fewer listed left
  lists : ListsSome mid listed (more_on (piece_paths left) count)

module _ (k limit fewer : ℕ) (ks : List ℕ) (r : NodeRecord) (o : Option (RecordMap NodeRecord)) (table : List PathRow) (found : ForSome o (λ m. fin.get m k ≡ Some r)) (one_less : limit - 1 ≡ fewer) where
  uncounted : (mid : Option (List PathRow)) → IsNodeOut r.kind r.path table mid → (listed : List (List Step)) (count : List Step → ℕ) (pieces : List Piece)
      → ShowsPieces o (k ∷ ks) limit listed pieces → Lists table listed (more_on (piece_paths pieces) count)
      → IsUncounted (with_top r.first (with_top r.right ks)) fewer o listed count mid
  unfolding IsNodeOut
  uncounted mid out listed count pieces shown lists =
      let next = popped k limit fewer ks r o found one_less shown.local shown.number pieces shown.front shown.back shown.begin shown.few shown.shows in
      let own : List (List Step) = own_of r.kind next.steps in
      let all : HasAll listed (own ++ piece_paths next.left) = subst (HasAll listed) next.paths_are shown.listed_are in
      let lists_own = lists-as table listed _ _ (ap (λ ps. more_on ps count) next.paths_are ∙ more-append own (piece_paths next.left) count ∙ more-swap (piece_paths next.left) own count) lists in
      record {
        left = next.left;
        shown = record {
          local = shown.local;
          number = shown.number;
          front = shown.front ++ next.here ∷ [];
          back = shown.back;
          begin = next.begin;
          few = next.few;
          shows = next.shows;
          numbers_are = shown.numbers_are;
          listed_are = all-back listed own (piece_paths next.left) all;
        };
        lists = out listed (more_on (piece_paths next.left) count) next.steps
            (λ value. path-by shown.number listed next.steps r.path shown.numbers_are (subst (HasAll listed) (ap (λ b. cond b (next.steps ∷ []) []) value) (all-front listed own (piece_paths next.left) all)).0 next.path) lists_own;
      }

  pub discounted-stopped : IsNodeOut r.kind r.path table None → IsDiscounted (k ∷ ks) limit (kept o table) None
  unfolding IsDiscounted
  discounted-stopped out listed count pieces shown lists = (uncounted None out listed count pieces shown lists).lists

  pub discounted-more : (mid : List PathRow) (last : Option (List PathRow)) → IsNodeOut r.kind r.path table (Some mid)
      → IsDiscounted (with_top r.first (with_top r.right ks)) fewer (kept o mid) last → IsDiscounted (k ∷ ks) limit (kept o table) last
  unfolding IsDiscounted
  discounted-more mid last out more listed count pieces shown lists =
      let next = uncounted (Some mid) out listed count pieces shown lists in
      more listed count next.left next.shown next.lists

pub tops-push : (links : List Link) (link : Link) → tops_of (links ++ link ∷ []) ≡ link.to ∷ tops_of links
tops-push links link = ap (map (λ (l : Link). l.to)) (reverse-append links (link ∷ []))

pub tops-pop : (old new : List Link) (popped : Option Link) → old ≡ new ++ option_to_list popped → IfSome popped (λ link. tops_of old ≡ link.to ∷ tops_of new)
tops-pop old new None is = tt
tops-pop old new (Some link) is = ap tops_of is ∙ tops-push new link

-- the links that are told
pub lead-push : (o : Option (RecordMap NodeRecord)) (links : List Link) (link : Link) → LeadsTo o link.from link.to → AllLead o links → AllLead o (links ++ link ∷ [])
lead-push o [] link leads all = (leads, tt)
lead-push o (l ∷ links) link leads all = (all.0, lead-push o links link leads all.1)

pub lead-pop : (o : Option (RecordMap NodeRecord)) (old new : List Link) (popped : Option Link) → old ≡ new ++ option_to_list popped → AllLead o old → AllLead o new × IfSome popped (λ link. LeadsTo o link.from link.to)
lead-pop o old new None is all = (subst (AllLead o) (is ∙ append-nil new) all, tt)
lead-pop o old new (Some link) is all = last new (subst (AllLead o) is all)
  where
    last : (links : List Link) → AllLead o (links ++ link ∷ []) → AllLead o links × LeadsTo o link.from link.to
    last [] all = (tt, all.0)
    last (l ∷ links) all = let more = last links all.1 in ((all.0, more.0), more.1)

pub walked-step : (all left : List ℕ) (k limit fewer : ℕ) (ks : List ℕ) (r : NodeRecord) (o now : Option (RecordMap NodeRecord)) (rest : List ℕ) → all ≡ k ∷ ks → ForSome o (λ m. fin.get m k ≡ Some r) → limit - 1 ≡ fewer
    → left ≡ with_top r.first (with_top r.right ks) → now ≡ o → IsWalked left fewer now rest → IsWalked all limit o (k ∷ rest)
walked-step all left k limit fewer ks r o now rest is there one_less left_is same more =
    rw is (walked-more k limit fewer ks r o rest there one_less (rw (left_is, same) at more))

pub walked-on : (tops : List ℕ) (limit : ℕ) (o : Option (RecordMap NodeRecord)) (gone all : List ℕ) (k : ℕ) (rest : List ℕ) → all ≡ gone ++ k ∷ [] → IsWalked tops limit o (gone ++ k ∷ rest) → IsWalked tops limit o (all ++ rest)
walked-on tops limit o gone all k rest is = subst (IsWalked tops limit o) (sym (ap (λ l. l ++ rest) is ∙ append_assoc gone (k ∷ []) rest))

pub walked-end : (tops now_tops : List ℕ) (limit now_limit : ℕ) (o now : Option (RecordMap NodeRecord)) (gone : List ℕ) → ((rest : List ℕ) → IsWalked now_tops now_limit now rest → IsWalked tops limit o (gone ++ rest)) → now_tops ≡ []
    → IsWalked tops limit o gone
walked-end tops now_tops limit now_limit o now gone walks is = subst (IsWalked tops limit o) (append-nil gone) (walks [] (rw is (walked-none now_limit now)))

pub walked-stopped : (all : List ℕ) (k limit : ℕ) (ks : List ℕ) (o : Option (RecordMap NodeRecord)) → all ≡ k ∷ ks → limit ≡ 0 → IsNoPiece all limit o
walked-stopped all k limit ks o is none = rw (is, none) (walked-endless k ks o)

only-below : (around : Around) (below : Forest) → piece_paths (with_piece around below []) ≡ paths_under around below
only-below around below = paths-with_piece around below [] ∙ append-nil (paths_under around below)

-- the trees below a node, as one piece
below-shown : (k : ℕ) (r : NodeRecord) (limit : ℕ) (o : Option (RecordMap NodeRecord)) (listed : List (List Step)) (around : Around) (below : Forest)
    → ShowsBelow o k r.first limit listed (around, below) → ShowsPieces o (first_tops r.first) limit listed (with_piece around below [])
below-shown k r limit o listed around below shown =
    let pieces : List Piece = with_piece around below [] in
    let rows_are : piece_rows shown.local shown.number pieces ≡ rows shown.local shown.number around below =
    rows-with_piece shown.local shown.number around below [] ∙ append-nil (rows shown.local shown.number around below) in
    let pushed : shown.front ++ (k, shown.own) ∷ (rows shown.local shown.number around below ++ shown.back) ≡ (shown.front ++ (k, shown.own) ∷ []) ++ (piece_rows shown.local shown.number pieces ++ shown.back) =
    (let e : shown.front ++ (k, shown.own) ∷ (rows shown.local shown.number around below ++ shown.back) ≡ (shown.front ++ (k, shown.own) ∷ []) ++ (rows shown.local shown.number around below ++ shown.back) = simp append_assoc in e)
    ∙ ap (λ l. (shown.front ++ (k, shown.own) ∷ []) ++ (l ++ shown.back)) (sym rows_are) in
    let many : sizes pieces ≡ size below + 0 = sizes-with_piece around below [] in
    record {
      local = shown.local;
      number = shown.number;
      front = shown.front ++ (k, shown.own) ∷ [];
      back = shown.back;
      begin = subst (λ f. BeginWith pieces (first_tops f)) shown.first_is (begin-with_piece around below [] [] shown.last tt);
      few = omega (arith, many, shown.few);
      shows = subst (Shows o) pushed shown.shows;
      numbers_are = shown.numbers_are;
      listed_are = subst (HasAll listed) (sym (only-below around below)) shown.listed_are;
    }

pub left-cannot : (k : ℕ) (r : NodeRecord) (limit : ℕ) (o : Option (RecordMap NodeRecord)) (table : List PathRow)
    → IsDiscounted (first_tops r.first) limit (kept o table) None → IsLeftOut k r limit (kept o table) None
unfolding IsDiscounted IsLeftOut
left-cannot k r limit o table discounted listed count steps (around, below) shown at lists =
    let own : List (List Step) = own_of r.kind steps in
    let inner : List (List Step) = paths_under around below in
    discounted listed (more_on own count) (with_piece around below []) (below-shown k r limit o listed around below shown)
    (lists-as table listed _ _ (more-append own inner count ∙ ap (λ ps. more_on ps (more_on own count)) (sym (only-below around below))) lists)

-- the numbers of a node and of the trees below it
pub uprooted : (k : ℕ) (first : Option ℕ) (limit : ℕ) (o : Option (RecordMap NodeRecord)) (walked gone : List ℕ) → IsWalked (first_tops first) limit o walked → gone ≡ walked ++ k ∷ [] → IsUprooted k first limit o gone
unfolding IsWalked IsUprooted
uprooted k first limit o walked gone walks gone_is local number around below w xs ys first_is last few shows =
    let pieces : List Piece = with_piece around below [] in
    let begin = subst (λ f. BeginWith pieces (first_tops f)) first_is (begin-with_piece around below [] [] last tt) in
    let many : sizes pieces ≡ size below + 0 = sizes-with_piece around below [] in
    let rows_are : piece_rows local number pieces ≡ rows local number around below = rows-with_piece local number around below [] ∙ append-nil (rows local number around below) in
    let pushed : xs ++ (k, w) ∷ (rows local number around below ++ ys) ≡ (xs ++ (k, w) ∷ []) ++ (piece_rows local number pieces ++ ys) =
    (let e : xs ++ (k, w) ∷ (rows local number around below ++ ys) ≡ (xs ++ (k, w) ∷ []) ++ (rows local number around below ++ ys) = simp append_assoc in e)
    ∙ ap (λ l. (xs ++ (k, w) ∷ []) ++ (l ++ ys)) (sym rows_are) in
    let walked_is = walks local number pieces (xs ++ (k, w) ∷ []) ys begin (omega arith) (subst (Shows o) pushed shows) in
    gone_is ∙ ap (λ l. l ++ k ∷ []) (walked_is ∙ ap numbers_of rows_are ∙ numbers-rows local number around below)

-- those are taken away
pub taken-out : (k : ℕ) (first : Option ℕ) (limit : ℕ) (o after : Option (RecordMap NodeRecord)) (gone : List ℕ) → IsUprooted k first limit o gone → after ≡ option_map (without gone) o → IsTakenOut k first limit o after
unfolding IsUprooted IsTakenOut
taken-out k first limit o after gone uproots put local number around below w xs ys first_is last few shows =
    let gone_is = uproots local number around below w xs ys first_is last few shows in
    let dropped = shows-drop o xs (rows local number around below ++ ys) k w shows in
    let rest = shows-without (numbers below) (rows local number around below) xs ys (option_map (λ m. fin.remove m k) o) (numbers-rows local number around below) dropped in
    subst (λ q. Shows q (xs ++ ys)) (without-last (numbers below) k o ∙ (λ i. option_map (without (sym gone_is i)) o) ∙ sym put) rest

-- the same at the loop's turn
pub discounted-step : (all left : List ℕ) (k limit fewer : ℕ) (ks : List ℕ) (r : NodeRecord) (o now : Option (RecordMap NodeRecord)) (table mid : List PathRow) (last : Option (List PathRow)) → all ≡ k ∷ ks
    → ForSome o (λ m. fin.get m k ≡ Some r) → limit - 1 ≡ fewer → left ≡ with_top r.first (with_top r.right ks) → now ≡ o → IsNodeOut r.kind r.path table (Some mid)
    → IsDiscounted left fewer (kept now mid) last → IsDiscounted all limit (kept o table) last
discounted-step all left k limit fewer ks r o now table mid last is there one_less left_is gone out more =
    rw is (discounted-more k limit fewer ks r o table there one_less mid last out (rw (left_is, gone) at more))

-- what is left out with a node
pub left-out : (k : ℕ) (r : NodeRecord) (limit : ℕ) (o : Option (RecordMap NodeRecord)) (table : List PathRow) (mid : List PathRow) (after : Option (List PathRow))
    → IsDiscounted (first_tops r.first) limit (kept o table) (Some mid) → IsNodeOut r.kind r.path mid after → IsLeftOut k r limit (kept o table) after
unfolding IsDiscounted IsLeftOut IsNodeOut
left-out k r limit o table mid after discounted out listed count steps (around, below) shown at lists =
    let own : List (List Step) = own_of r.kind steps in
    let inner : List (List Step) = paths_under around below in
    out listed count steps at (discounted listed (more_on own count) (with_piece around below []) (below-shown k r limit o listed around below shown)
    (lists-as table listed _ _ (more-append own inner count ∙ ap (λ ps. more_on ps (more_on own count)) (sym (only-below around below))) lists))
