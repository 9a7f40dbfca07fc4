-- Records of many nodes that are put, and taken away.
use Rattle.std.proofs.Common.{◌≡◌, ℕ, List, [], ◌∷◌, ◌++◌, Option, Some, None, refl, ap, subst, ◌∙◌, append_assoc}
use Rattle.std.specs.Prelude.{option_map}
use Rattle.std.specs.FinMap as fin
use Rattle.sx_tree.specs.declared.record.NodeRecord.{NodeRecord}
use Rattle.sx_view.specs.Records.{RecordMap}
use Rattle.sx_view.specs.Rows.{row_of}
use Rattle.sx_model.specs.Records.{NodeRow}
use Rattle.sx_edit.specs.declared.trees.Seen.{Seen}
use Rattle.sx_edit.specs.Seen.{entries_of, entry_of, with_records, without}
use Rattle.sx_edit.specs.Told.{Shows, numbers_of}
use Rattle.sx_edit.proofs.Showing.{shows-drop, shows-put}

without-end : (ks : List ℕ) (k : ℕ) (m : RecordMap NodeRecord) → without ks (fin.remove m k) ≡ without (ks ++ k ∷ []) m
without-end [] k m = refl
without-end (q ∷ ks) k m = ap (λ (n : RecordMap NodeRecord). fin.remove n q) (without-end ks k m)

pub without-last : (ks : List ℕ) (k : ℕ) (o : Option (RecordMap NodeRecord)) → option_map (without ks) (option_map (λ m. fin.remove m k) o) ≡ option_map (without (ks ++ k ∷ [])) o
without-last ks k None = refl
without-last ks k (Some m) = ap (λ n. Some n) (without-end ks k m)

without-first : (ks : List ℕ) (k : ℕ) (o : Option (RecordMap NodeRecord)) → option_map (λ m. fin.remove m k) (option_map (without ks) o) ≡ option_map (without (k ∷ ks)) o
without-first ks k None = refl
without-first ks k (Some m) = refl

with-end : (seens : List Seen) (seen : Seen) (m : RecordMap NodeRecord) → with_records seens (fin.insert m seen.node seen.record) ≡ with_records (seens ++ seen ∷ []) m
with-end [] seen m = refl
with-end (s ∷ seens) seen m = ap (λ (n : RecordMap NodeRecord). fin.insert n s.node s.record) (with-end seens seen m)

pub with-last : (seens : List Seen) (seen : Seen) (o : Option (RecordMap NodeRecord)) → option_map (with_records seens) (option_map (λ m. fin.insert m seen.node seen.record) o) ≡ option_map (with_records (seens ++ seen ∷ [])) o
with-last seens seen None = refl
with-last seens seen (Some m) = ap (λ n. Some n) (with-end seens seen m)

with-first : (seens : List Seen) (seen : Seen) (o : Option (RecordMap NodeRecord)) → option_map (λ m. fin.insert m seen.node seen.record) (option_map (with_records seens) o) ≡ option_map (with_records (seen ∷ seens)) o
with-first seens seen None = refl
with-first seens seen (Some m) = refl

pub with-none : (seens : List Seen) (o : Option (RecordMap NodeRecord)) → seens ≡ [] → o ≡ option_map (with_records seens) o
with-none [] None is = refl
with-none [] (Some m) is = refl
with-none (seen ∷ seens) o is = absurd cc

pub without-none : (ks : List ℕ) (o : Option (RecordMap NodeRecord)) → ks ≡ [] → o ≡ option_map (without ks) o
without-none [] None is = refl
without-none [] (Some m) is = refl
without-none (k ∷ ks) o is = absurd cc

group_first : (xs es ys : List (ℕ × NodeRow)) (e : ℕ × NodeRow) → xs ++ ((e ∷ es) ++ ys) ≡ (xs ++ e ∷ []) ++ (es ++ ys)
group_first xs es ys e = simp append_assoc

group_last : (xs ys : List (ℕ × NodeRow)) (e : ℕ × NodeRow) → (xs ++ e ∷ []) ++ ys ≡ xs ++ e ∷ ys
group_last xs ys e = simp append_assoc

-- entries whose nodes are taken away
pub shows-without : (ks : List ℕ) (es xs ys : List (ℕ × NodeRow)) (o : Option (RecordMap NodeRecord)) → numbers_of es ≡ ks → Shows o (xs ++ (es ++ ys)) → Shows (option_map (without ks) o) (xs ++ ys)
shows-without [] [] xs ys o is shows = subst (λ q. Shows q (xs ++ ys)) (same o) shows
  where
    same : (o : Option (RecordMap NodeRecord)) → o ≡ option_map (without []) o
    same None = refl
    same (Some m) = refl
shows-without [] (e ∷ es) xs ys o is shows = absurd cc
shows-without (k ∷ ks) [] xs ys o is shows = absurd cc
shows-without (k ∷ ks) (e ∷ es) xs ys o is shows =
    let rest : numbers_of es ≡ ks = cc in
    let number : e.0 ≡ k = cc in
    let inner = shows-without ks es (xs ++ e ∷ []) ys o rest (subst (Shows o) (group_first xs es ys e) shows) in
    let dropped = shows-drop (option_map (without ks) o) xs ys e.0 e.1 (subst (Shows (option_map (without ks) o)) (group_last xs ys e) inner) in
    subst (λ q. Shows q (xs ++ ys)) ((λ i. option_map (λ m. fin.remove m (number i)) (option_map (without ks) o)) ∙ without-first ks k o) dropped

-- entries whose nodes get other records
pub shows-with : (seens : List Seen) (es xs ys : List (ℕ × NodeRow)) (o : Option (RecordMap NodeRecord)) → numbers_of es ≡ numbers_of (entries_of seens) → Shows o (xs ++ (es ++ ys))
    → Shows (option_map (with_records seens) o) (xs ++ (entries_of seens ++ ys))
shows-with [] [] xs ys o is shows = subst (λ q. Shows q (xs ++ ys)) (same o) shows
  where
    same : (o : Option (RecordMap NodeRecord)) → o ≡ option_map (with_records []) o
    same None = refl
    same (Some m) = refl
shows-with [] (e ∷ es) xs ys o is shows = absurd cc
shows-with (seen ∷ seens) [] xs ys o is shows = absurd cc
shows-with (seen ∷ seens) (e ∷ es) xs ys o is shows =
    let rest : numbers_of es ≡ numbers_of (entries_of seens) = cc in
    let number : e.0 ≡ seen.node = cc in
    let inner = shows-with seens es (xs ++ e ∷ []) ys o rest (subst (Shows o) (group_first xs es ys e) shows) in
    let there = subst (λ k. Shows (option_map (with_records seens) o) (xs ++ (k, e.1) ∷ (entries_of seens ++ ys))) number
    (subst (Shows (option_map (with_records seens) o)) (group_last xs (entries_of seens ++ ys) e) inner) in
    let put = shows-put (option_map (with_records seens) o) seen.record xs (entries_of seens ++ ys) seen.node e.1 (row_of seen.record) refl there in
    subst (λ q. Shows q (xs ++ entry_of seen ∷ (entries_of seens ++ ys))) (with-first seens seen o) put
