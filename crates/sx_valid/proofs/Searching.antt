-- The search for valid objects, node after node.
use Rattle.std.proofs.Common.{◌≡◌, ◌+◌, ◌-◌, ◌<◌, ◌≤◌, ◌&&◌, ◌⊎◌, ℕ, ℤ, Bool, false, if◌then◌else◌, List, [], ◌∷◌, ◌++◌, reverse, Option, None, Some, take, refl, sym, ap, subst, ◌∙◌, append_assoc, append-nil, zero-add, inl, inr, arith}
use Rattle.std.proofs.lemmas.List.{reverse-append}
use Rattle.std.specs.Prelude.{Result, Ok, Err, IfErr, IfOk, IsErrAnd, MatchResult, slice_get}
use Rattle.sx_bytes.specs.declared.damage.Damage.{Damage}
use Rattle.sx_tree.specs.declared.record.Kind.{Kind}
use Rattle.sx_tree.specs.declared.record.Kind.TheVariants.{Document, Object, Array, Key, Str, Number, Bool as Truth, Null}
use Rattle.sx_tree.specs.declared.record.NodeRecord.{NodeRecord}
use Rattle.sx_tree.specs.declared.record.Step.{Step}
use Rattle.sx_tree.specs.declared.numbers.Numbers.{Numbers}
use Rattle.sx_view.specs.declared.fault.Fault.{Fault}
use Rattle.sx_view.specs.declared.fault.Fault.TheVariants.{Failed, Damaged, OutOfMemory}
use Rattle.sx_view.specs.Records.{Explains, ExplainsFault, IsDamaged, RecordMap}
use Rattle.sx_view.proofs.Failing.{undamaged}
use Rattle.sx_model.specs.Records.{NodeRow, at_top, first_of}
use Rattle.sx_model.specs.Tree.{Forest, count, is_key, is_object, no_trees, numbers, size, tree_then}
use Rattle.sx_model.specs.Valid.{field, has_begun, has_not_ended, valid}
use Rattle.sx_cursor.specs.Damage.{IsBrokenLink, IsLinked}
use Rattle.sx_cursor.specs.Told.{IsNoDocument, Shows, Tells}
use Rattle.sx_cursor.proofs.Telling.{shows-tells, some_number}
use Rattle.sx_valid.specs.Fields.{IsRow, reach}
use Rattle.sx_valid.specs.Survey.{AreLeft, AreLinked, AreTooFew, GoesInto, IsJudged, IsOutcome, Outcome, Rest, Searches, SearchesFrom, cost, done, is_valid, links_of, need, overrun, rest_of}
use Rattle.sx_valid.specs.Valid.{AreValid}
use Rattle.sx_valid.specs.declared.asked.Asked.{Asked}
use Rattle.sx_valid.specs.declared.survey.Link.{Link}
use Rattle.sx_valid.specs.declared.survey.Survey.{Survey}
use Rattle.sx_valid.proofs.Looking.{head, never_absent}

-- ---- one node

pub judged_other : (o : Option (RecordMap NodeRecord)) (asked : Asked) (kind : Kind) (first : Option ℕ) (looks : ℕ) → is_object kind ≡ false → IsJudged o asked kind first looks (false, looks)
unfolding IsJudged
judged_other o asked kind first looks other = λ m told above keys row.
    (ap (λ b. b && (has_begun asked.time (field asked.from.now keys) && has_not_ended asked.time (field asked.to.now keys))) (sym other), omega arith)

-- ---- how many looks there are

count_reach : (f : Forest) → count f ≤ reach f
count_reach no_trees = omega arith
count_reach (tree_then n below rest) = omega (arith, count_reach rest)

-- an object's children are looked at, and a Key's value, and there is no node that is both
own_nodes : (kind : Kind) (r c : ℕ) → c ≤ r → (if is_object kind then r else 0) + (if is_key kind then c else 0) ≤ r
own_nodes Document r c less = omega arith
own_nodes Object r c less = omega arith
own_nodes Array r c less = omega arith
own_nodes Key r c less = omega (arith, less)
own_nodes Str r c less = omega arith
own_nodes Number r c less = omega arith
own_nodes Truth r c less = omega arith
own_nodes Null r c less = omega arith

need_size : (f : Forest) → need f + reach f ≤ size f
need_size no_trees = omega arith
need_size (tree_then n below rest) =
    omega (arith, need_size below, need_size rest, own_nodes n.kind (reach below) (count below) (count_reach below))

-- ---- links that wait

reverse_snoc : (links : List Link) (link : Link) → reverse (links ++ link ∷ []) ≡ link ∷ reverse links
reverse_snoc links link = reverse-append links (link ∷ [])

rest_none : (asked : Asked) (rest : Rest) → rest ≡ rest_of asked no_trees rest
rest_none asked rest = λ i. record { objects = rest.objects; visits = sym (zero-add rest.visits) i; looks = sym (zero-add rest.looks) i }

-- the trees to which a link leads are left, before all others
pub left_more : (asked : Asked) (m : RecordMap NodeRecord) (above : Option Kind) (from : ℕ) (next : Option ℕ) (trees : Forest) (links : List Link) (rest : Rest) → IsRow m above next trees
    → AreLeft asked m (reverse links) rest → AreLeft asked m (reverse (links ++ links_of from next)) (rest_of asked trees rest)
left_more asked m above from (Some k) trees links rest row left =
    subst (λ l. AreLeft asked m l (rest_of asked trees rest)) (sym (reverse_snoc links (record { from = from; to = k }))) (above, (trees, (rest, (row, left, refl))))
left_more asked m above from None no_trees links rest row left =
    subst (λ l. AreLeft asked m (reverse l) (rest_of asked no_trees rest)) (sym (append-nil links)) (subst (λ all. AreLeft asked m (reverse links) all) (rest_none asked rest) left)
left_more asked m above from None (tree_then n below more) links rest row left = absurd (cc row.starts)

-- ---- a node that is visited

entered-at : (m : RecordMap NodeRecord) (asked : Asked) (old new : Survey) (k : ℕ) (w : NodeRow) (here : Bool) (above : Option Kind) (trees : Forest) (rest : Rest) (outcome : Outcome)
    → Tells (Some m) k (Some w) → 0 < old.left → IsJudged (Some m) asked w.kind w.first old.looks (here, new.looks) → new.found ≡ old.found ++ (if here then k ∷ [] else []) → new.left ≡ old.left - 1
    → new.pending.items ≡ (old.pending.items ++ links_of k w.right) ++ links_of k w.first → IsRow m above (Some k) trees → AreLeft asked m (reverse old.pending.items) rest
    → Searches (Some m) asked new outcome → IsOutcome old outcome (rest_of asked trees rest)
unfolding IsJudged Searches
entered-at m asked old new k w here above no_trees rest outcome there room own found left pending row waits come = absurd (cc row.starts)
entered-at m asked old new k w here above (tree_then n below more) rest outcome there room own found left pending row waits come =
    let top = head m above k w n below more row there in
    let answer = own m refl (Some n.kind) below top.under in
    let behind = left_more asked m above k w.right more old.pending.items rest top.behind waits in
    let all = left_more asked m (Some n.kind) k w.first below (old.pending.items ++ links_of k w.right) (rest_of asked more rest) top.under behind in
    let moved = subst (λ l. AreLeft asked m (reverse l) (rest_of asked below (rest_of asked more rest))) (sym pending) all in
    let looks : cost w.kind below ≡ cost n.kind below = ap (λ kind. cost kind below) top.kind in
    let listed : (if here then k ∷ [] else []) ≡ (if is_valid asked n.kind below then n.number ∷ [] else [])
    = (λ i. if answer.0 i then sym (some_number n.number k row.starts) i ∷ [] else []) ∙ ap (λ kind. if is_valid asked kind below then n.number ∷ [] else []) top.kind in
    by outcome answer.1 looks listed (come m refl (rest_of asked below (rest_of asked more rest)) moved)
  where
    by : (outcome : Outcome) → old.looks ≤ new.looks + cost w.kind below → cost w.kind below ≡ cost n.kind below
        → (if here then k ∷ [] else []) ≡ (if is_valid asked n.kind below then n.number ∷ [] else [])
        → IsOutcome new outcome (rest_of asked below (rest_of asked more rest)) → IsOutcome old outcome (rest_of asked (tree_then n below more) rest)
    by (done all) few looks listed come =
        let own : List ℕ = if is_valid asked n.kind below then n.number ∷ [] else [] in
        let one : List ℕ = valid asked.from.now asked.to.now asked.time below in
        let two : List ℕ = valid asked.from.now asked.to.now asked.time more in
        let grouped : (old.found ++ own) ++ (one ++ (two ++ rest.objects)) ≡ old.found ++ ((own ++ (one ++ two)) ++ rest.objects) = simp append_assoc in
        come ∙ (ap (λ l. l ++ (one ++ (two ++ rest.objects))) (found ∙ ap (λ l. old.found ++ l) listed) ∙ grouped)
    by overrun few looks listed (inl visits) = inl (omega (arith, visits, left, room))
    by overrun few looks listed (inr too_few) = inr (omega (arith, too_few, few, looks))

pub entered : (o : Option (RecordMap NodeRecord)) (asked : Asked) (old new : Survey) (k : ℕ) (w : NodeRow) (here : Bool) → Tells o k (Some w) → 0 < old.left
    → IsJudged o asked w.kind w.first old.looks (here, new.looks) → new.found ≡ old.found ++ (if here then k ∷ [] else []) → new.left ≡ old.left - 1
    → new.pending.items ≡ (old.pending.items ++ links_of k w.right) ++ links_of k w.first → GoesInto o asked k old new
unfolding SearchesFrom
entered o asked old new k w here there room own found left pending = λ outcome come m told above trees row rest waits.
    entered-at m asked old new k w here above trees rest outcome (subst (λ x. Tells x k (Some w)) told there) room
    (subst (λ x. IsJudged x asked w.kind w.first old.looks (here, new.looks)) told own) found left pending row waits (subst (λ x. Searches x asked new outcome) told come)

too_few-at : (m : RecordMap NodeRecord) (asked : Asked) (old : Survey) (k : ℕ) (w : NodeRow) (above : Option Kind) (trees : Forest) (rest : Rest) → Tells (Some m) k (Some w)
    → AreTooFew (Some m) w.kind w.first old.looks → IsRow m above (Some k) trees → old.looks < need trees + rest.looks
unfolding AreTooFew
too_few-at m asked old k w above no_trees rest there few row = absurd (cc row.starts)
too_few-at m asked old k w above (tree_then n below more) rest there few row =
    let top = head m above k w n below more row there in
    omega (arith, few m refl (Some n.kind) below top.under, ap (λ kind. cost kind below) top.kind)

pub judge_fails : {T : Type 0} (r : Result T Fault) (P : T → Type 0) (o : Option (RecordMap NodeRecord)) (asked : Asked) (old : Survey) (k : ℕ) (w : NodeRow) (fault : Fault) → IsErrAnd r (λ e. e ≡ fault)
    → Tells o k (Some w) → (IsDamaged fault → AreTooFew o w.kind w.first old.looks) → MatchResult r P (λ e. IsDamaged e → SearchesFrom o asked k old overrun)
unfolding SearchesFrom
judge_fails (Ok x) P o asked old k w fault is there why = absurd is
judge_fails (Err e) P o asked old k w fault is there why = λ damaged m told above trees row rest waits.
    inr (too_few-at m asked old k w above trees rest (subst (λ x. Tells x k (Some w)) told there) (subst (λ x. AreTooFew x w.kind w.first old.looks) told (why (subst IsDamaged is damaged))) row)

-- ---- a link that is followed

pub none_waits : (old new : List Link) (len : ℕ) → len ≡ 0 → new ≡ take (len - 1) old → old ≡ new ++ [] → old ≡ []
none_waits old new len none rest is =
    let gone : len - 1 ≡ 0 = omega arith in
    is ∙ (append-nil new ∙ (rest ∙ ap (λ k. take k old) gone))

pub nothing_left : (o : Option (RecordMap NodeRecord)) (asked : Asked) (old new : Survey) → old.pending.items ≡ [] → new.found ≡ old.found → Searches o asked old (done new.found)
unfolding Searches
nothing_left o asked old new none same = λ m told rest left.
    let empty = subst (λ l. AreLeft asked m (reverse l) rest) none left in
    same ∙ (sym (append-nil _) ∙ ap (λ (x : Rest). old.found ++ x.objects) (sym empty))

-- the search, before the link to this node was taken from those that wait
pub popped : (o : Option (RecordMap NodeRecord)) (asked : Asked) (old new : Survey) (link : Link) (outcome : Outcome) → old.pending.items ≡ new.pending.items ++ link ∷ []
    → new.found ≡ old.found → new.left ≡ old.left → new.looks ≡ old.looks → SearchesFrom o asked link.to new outcome → Searches o asked old outcome
unfolding Searches SearchesFrom
popped o asked old new link outcome items found left looks come = λ m told rest waits.
    let stack = subst (λ l. AreLeft asked m l rest) (ap reverse items ∙ reverse_snoc new.pending.items link) waits in
    let trees = stack.1.0 in
    let more = stack.1.1.0 in
    by outcome rest (rest_of asked trees more) (stack.1.1.1.2) (come m told stack.0 trees stack.1.1.1.0 more stack.1.1.1.1)
  where
    by : (outcome : Outcome) (rest all : Rest) → rest ≡ all → IsOutcome new outcome all → IsOutcome old outcome rest
    by (done listed) rest all same is = is ∙ (λ i. found i ++ sym (ap (λ (x : Rest). x.objects) same) i)
    by overrun rest all same (inl few) = inl (omega (arith, few, left, ap (λ (x : Rest). x.visits) same))
    by overrun rest all same (inr few) = inr (omega (arith, few, looks, ap (λ (x : Rest). x.looks) same))

visits-one : (m : RecordMap NodeRecord) (above : Option Kind) (k : ℕ) (trees : Forest) → IsRow m above (Some k) trees → 1 ≤ size trees
visits-one m above k no_trees row = absurd (cc row.starts)
visits-one m above k (tree_then n below rest) row = omega arith

-- no visits are left
pub no_visits : (o : Option (RecordMap NodeRecord)) (asked : Asked) (k : ℕ) (survey : Survey) → survey.left ≡ 0 → SearchesFrom o asked k survey overrun
unfolding SearchesFrom
no_visits o asked k survey none = λ m told above trees row rest waits. inl (omega (arith, none, visits-one m above k trees row))

never_row : (m : RecordMap NodeRecord) (above : Option Kind) (k : ℕ) (trees : Forest) → IsRow m above (Some k) trees → Tells (Some m) k None → ⊥
never_row m above k no_trees row absent = absurd (cc row.starts)
never_row m above k (tree_then n below rest) row absent = never_absent m above (Some k) k n below rest row (some_number n.number k row.starts) absent

pub never_told : (o : Option (RecordMap NodeRecord)) (asked : Asked) (k : ℕ) (survey : Survey) (outcome : Outcome) → o ≡ None → SearchesFrom o asked k survey outcome
unfolding SearchesFrom
never_told o asked k survey outcome untold = λ m told. absurd (cc (sym untold ∙ told))

-- there is no such node
pub no_node : (o : Option (RecordMap NodeRecord)) (asked : Asked) (k : ℕ) (survey : Survey) (outcome : Outcome) → Tells o k None → SearchesFrom o asked k survey outcome
unfolding SearchesFrom
no_node o asked k survey outcome absent = λ m told above trees row rest waits. absurd (never_row m above k trees row (subst (λ x. Tells x k None) told absent))

pub link_fails : {T : Type 0} (r : Result T Fault) (P : T → Type 0) (o : Option (RecordMap NodeRecord)) (asked : Asked) (from k : ℕ) (survey : Survey) (below : Damage → Type 0) (rose : Type 0) (fault : Fault) (Q : Type 0)
    → IsErrAnd r (λ e. e ≡ fault) → ((d : Damage) → below d → o ≡ None) → Explains below rose (IsBrokenLink o from k) fault → (SearchesFrom o asked k survey overrun → Q) → MatchResult r P (λ e. IsDamaged e → Q)
link_fails (Ok x) P o asked from k survey below rose fault Q is untold why so = absurd is
link_fails (Err e) P o asked from k survey below rose fault Q is untold why so = λ damaged.
    so (undamaged below (IsBrokenLink o from k) rose (SearchesFrom o asked k survey overrun) fault (λ d told. never_told o asked k survey overrun (untold d told))
    (λ d broken. no_node o asked k survey overrun broken.0) why (subst IsDamaged is damaged))

-- ---- links that are told

pub linked_more : (o : Option (RecordMap NodeRecord)) (links more : List Link) → AreLinked o links → AreLinked o more → AreLinked o (links ++ more)
linked_more o [] more one two = two
linked_more o (link ∷ links) more one two = (one.0, linked_more o links more one.1 two)

pub linked_split : (o : Option (RecordMap NodeRecord)) (links : List Link) (link : Link) → AreLinked o (links ++ link ∷ []) → AreLinked o links × IsLinked o link.from link.to
linked_split o [] link linked = (tt, linked.0)
linked_split o (first ∷ links) link linked =
    let more = linked_split o links link linked.1 in
    ((linked.0, more.0), more.1)

pub linked_own : (o : Option (RecordMap NodeRecord)) (k : ℕ) (w : NodeRow) (next : Option ℕ) → Tells o k (Some w) → ((to : ℕ) → next ≡ Some to → (w.first ≡ Some to) ⊎ (w.right ≡ Some to))
    → AreLinked o (links_of k next)
linked_own o k w None there how = tt
linked_own o k w (Some to) there how = ((w, (there, how to refl)), tt)

-- ---- the whole document

starts_at : (trees : Forest) → slice_get (numbers trees) 0 ≡ Some 0 → first_of trees ≡ Some 0
starts_at no_trees zero = zero
starts_at (tree_then n below rest) zero = zero

whole : (local : Kind → List ℕ → ℕ) (number : List Step → ℕ) (trees : Forest) (m : RecordMap NodeRecord) → Shows local number trees (Some m) → IsRow m None (Some 0) trees
whole local number trees m shows = record {
  local = local;
  number = number;
  around = at_top;
  starts = starts_at trees shows.well_formed.zero;
  ends = refl;
  tells = shows-tells local number trees (Some m) shows;
  fits = shows.well_formed.fit;
}

-- the search as it begins
abbrev pub IsBegun : Survey → ℕ → Type 0
IsBegun survey looks = (survey.pending.items ≡ []) × (survey.found ≡ []) × (survey.left ≡ looks) × (survey.looks ≡ looks)

pub found_all : (o : Option (RecordMap NodeRecord)) (asked : Asked) (survey : Survey) (total : ℕ) (found : List ℕ) → IsBegun survey total → SearchesFrom o asked 0 survey (done found)
    → AreValid o asked.from.now asked.to.now asked.time found
unfolding AreValid SearchesFrom
found_all None asked survey total found begun come = λ local number trees shows. absurd shows.holds
found_all (Some m) asked survey total found begun come = λ local number trees shows.
    let nothing : Rest = record { objects = []; visits = 0; looks = 0 } in
    come m refl None trees (whole local number trees m shows) nothing (subst (λ l. AreLeft asked m (reverse l) nothing) (sym begun.0) refl)
    ∙ (ap (λ l. l ++ (valid asked.from.now asked.to.now asked.time trees ++ [])) begun.1 ∙ append-nil _)

too_many : (trees : Forest) (left looks total : ℕ) → left ≡ total → looks ≡ total → (left < size trees + 0) ⊎ (looks < need trees + 0) → size trees ≤ total → ⊥
too_many trees left looks total one two (inl more) few = absurd (omega (arith, one, more, few))
too_many trees left looks total one two (inr more) few = absurd (omega (arith, two, more, few, need_size trees))

pub none_found : (o : Option (RecordMap NodeRecord)) (asked : Asked) (survey : Survey) (total : ℕ) → IsBegun survey total → SearchesFrom o asked 0 survey overrun → IsNoDocument o total
unfolding IsNoDocument SearchesFrom
none_found None asked survey total begun come = λ local number trees shows few. absurd shows.holds
none_found (Some m) asked survey total begun come = λ local number trees shows few.
    let nothing : Rest = record { objects = []; visits = 0; looks = 0 } in
    too_many trees survey.left survey.looks total begun.2 begun.3
    (come m refl None trees (whole local number trees m shows) nothing (subst (λ l. AreLeft asked m (reverse l) nothing) (sym begun.0) refl)) few

pub absent_valid : (o : Option (RecordMap NodeRecord)) (from to : List ℕ) (time : ℤ) → Tells o 0 None → AreValid o from to time []
unfolding AreValid
absent_valid None from to time absent = λ local number trees shows. absurd shows.holds
absent_valid (Some m) from to time absent = λ local number trees shows. absurd (never_row m None 0 trees (whole local number trees m shows) absent)

-- ---- what the whole search answers

pub all_found : (r : Result Numbers Fault) (o mid : Option (RecordMap NodeRecord)) (asked : Asked) (time : ℤ) (survey : Survey) (total : ℕ) (Q : Fault → Type 0) → mid ≡ o → asked.time ≡ time → IsBegun survey total
    → MatchResult r (λ found. SearchesFrom mid asked 0 survey (done found)) Q → IfOk r (AreValid o asked.from.now asked.to.now time)
all_found (Err e) o mid asked time survey total Q same time_is begun come = tt
all_found (Ok found) o mid asked time survey total Q same time_is begun come =
    subst (λ t. AreValid o asked.from.now asked.to.now t found) time_is (found_all o asked survey total found begun (subst (λ x. SearchesFrom x asked 0 survey (done found)) same come))

pub all_sound : (r : Result Numbers Fault) (o mid : Option (RecordMap NodeRecord)) (asked : Asked) (survey : Survey) (total : ℕ) (P : Numbers → Type 0) → mid ≡ o → IsBegun survey total
    → MatchResult r P (λ fault. IsDamaged fault → SearchesFrom mid asked 0 survey overrun) → IfErr r (λ fault. IsDamaged fault → IsNoDocument o total)
all_sound (Ok found) o mid asked survey total P same begun come = tt
all_sound (Err e) o mid asked survey total P same begun come = λ damaged. none_found o asked survey total begun (subst (λ x. SearchesFrom x asked 0 survey overrun) same (come damaged))

no_document-untold : (o : Option (RecordMap NodeRecord)) (total : ℕ) → o ≡ None → IsNoDocument o total
unfolding IsNoDocument
no_document-untold o total untold = λ local number trees shows few. absurd (subst (λ x. Shows local number trees x) untold shows).holds

pub no_document-empty : (o : Option (RecordMap NodeRecord)) (total : ℕ) → total ≡ 0 → IsNoDocument o total
unfolding IsNoDocument
no_document-empty None total none = λ local number trees shows few. absurd shows.holds
no_document-empty (Some m) total none = λ local number trees shows few. absurd (omega (arith, visits-one m None 0 trees (whole local number trees m shows), few, none))

pub read_sound : {T : Type 0} (r : Result T Fault) (o : Option (RecordMap NodeRecord)) (total : ℕ) (below : Damage → Type 0) (rose : Type 0) (fault : Fault) → IsErrAnd r (λ e. e ≡ fault)
    → ((d : Damage) → below d → o ≡ None) → ExplainsFault below rose fault → IfErr r (λ e. IsDamaged e → IsNoDocument o total)
read_sound (Ok x) o total below rose fault is untold why = absurd is
read_sound (Err e) o total below rose fault is untold why = λ damaged. by e (subst (ExplainsFault below rose) (sym is) why) damaged
  where
    by : (e : Fault) → ExplainsFault below rose e → IsDamaged e → IsNoDocument o total
    by Failed why damaged = absurd damaged
    by OutOfMemory why damaged = absurd damaged
    by (Damaged damage) why damaged = no_document-untold o total (untold damage why)
