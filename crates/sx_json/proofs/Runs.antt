-- A run of bytes of a string that stand for themselves.
use Rattle.std.proofs.Common.{◌≡◌, ℕ, ◌+◌, ◌≤◌, ◌<◌, ◌⊎◌, inl, inr, List, [], ◌∷◌, ◌++◌, refl, ap, sym, ◌∙◌, subst, arith, append_assoc, length, take, drop, get_or, IsUtf8}
use Rattle.std.proofs.lemmas.Bool.{cases_lt}
use Rattle.std.proofs.lemmas.List.{append-nil, length-append, take-append-drop, take_more}
use Rattle.sx_model.specs.Strings.{IsPlain, StringAt, closing, plain}
use Rattle.sx_model.specs.StringFaults.{StringFault, too_long, behind}
use Rattle.sx_tree.specs.declared.json_fault.JsonFault.{JsonFault}
use Rattle.sx_tree.specs.declared.json_fault.JsonFault.TheVariants.{StringTooLong}
use Rattle.sx_json.specs.Piece.{ArePlain, IsRun}

plain_push : (run : List ℕ) (b : ℕ) → ArePlain run → IsPlain b → ArePlain (run ++ b ∷ [])
plain_push [] b all one = (one, tt)
plain_push (c ∷ cs) b all one = (all.0, plain_push cs b all.1 one)

pub plain_more : (bytes : List ℕ) (i : ℕ) → i < length bytes → ArePlain (take i bytes) → IsPlain (get_or bytes i 0) → ArePlain (take (i + 1) bytes)
plain_more bytes i below all one = subst ArePlain (sym (take_more bytes i 0 below)) (plain_push (take i bytes) (get_or bytes i 0) all one)

-- What follows a run follows it in the string.
pub run_reads : (run left more l : List ℕ) → ArePlain run → StringAt left more l → StringAt (run ++ left) (run ++ more) l
run_reads [] left more l all s = s
run_reads (b ∷ bs) left more l all s = plain b (bs ++ left) (bs ++ more) l all.0 (run_reads bs left more l all.1 s)

-- So does what is wrong, while the string is within the limit.
pub run_goes : (end start count : ℕ) (run left : List ℕ) (f : JsonFault) → ArePlain run → count + length run ≤ 1_048_576 → StringFault end start (count + length run) left f → StringFault end start count (run ++ left) f
run_goes end start count [] left f all small h = subst (λ n. StringFault end start n left f) (omega arith) h
run_goes end start count (b ∷ bs) left f all small h =
    behind count (b ∷ (bs ++ left)) (b ∷ []) (bs ++ left) f (inl (all.0, refl, refl)) (omega (arith, small))
    (run_goes end start (count + length (b ∷ [])) bs left f all.1 (omega (arith, small)) (subst (λ n. StringFault end start n left f) (omega arith) h))

pub run_long : (end start count : ℕ) (run left : List ℕ) → ArePlain run → count ≤ 1_048_576 → 1_048_576 < count + length run → StringFault end start count (run ++ left) (StringTooLong start)
run_long end start count [] left all small long = absurd (omega (arith, small, long))
run_long end start count (b ∷ bs) left all small long = by_cases (λ within. run_long end start (count + 1) bs left all.1 within (omega (arith, long))) (cases_lt 1_048_576 (count + 1))
  where
    by_cases : (count + 1 ≤ 1_048_576 → StringFault end start (count + 1) (bs ++ left) (StringTooLong start)) → (1_048_576 < count + 1) ⊎ (count + 1 ≤ 1_048_576) → StringFault end start count (b ∷ bs ++ left) (StringTooLong start)
    by_cases more (inl over) = too_long count (b ∷ (bs ++ left)) (b ∷ []) (bs ++ left) (StringTooLong start) (inl (all.0, refl, refl)) over refl
    by_cases more (inr within) = behind count (b ∷ (bs ++ left)) (b ∷ []) (bs ++ left) (StringTooLong start) (inl (all.0, refl, refl)) within (more within)

pub run_fault : (end start count n : ℕ) (bytes : List ℕ) (f : JsonFault) → ArePlain (take n bytes) → count ≤ 1_048_576 → 1_048_576 < count + length (take n bytes) → f ≡ StringTooLong start → StringFault end start count bytes f
run_fault end start count n bytes f all small long is =
    subst (StringFault end start count bytes) (sym is)
    (subst (λ b. StringFault end start count b (StringTooLong start)) (take-append-drop n bytes) (run_long end start count (take n bytes) (drop n bytes) all small long))

-- ---- behind a run that was added to the content

pub after_run : (bytes left content new rest : List ℕ) → ((more l : List ℕ) → StringAt left more l → StringAt bytes (content ++ more) l) → IsRun left content new rest → (more l : List ℕ) → StringAt rest more l → StringAt bytes (new ++ more) l
after_run bytes left content new rest leads r more l s =
    subst (λ c. StringAt bytes c l) (sym (ap (λ n. n ++ more) r.3 ∙ append_assoc content r.0 more))
    (leads (r.0 ++ more) l (subst (λ b. StringAt b (r.0 ++ more) l) (sym r.2) (run_reads r.0 rest more l r.1 s)))

pub after_run_fault : (end start : ℕ) (bytes left content new rest : List ℕ) → ((f : JsonFault) → StringFault end start (length content) left f → StringFault end start 0 bytes f) → IsRun left content new rest
    → (f : JsonFault) → StringFault end start (length new) rest f → StringFault end start 0 bytes f
after_run_fault end start bytes left content new rest fault r f h =
    let count : length new ≡ length content + length r.0 = ap length r.3 ∙ length-append content r.0 in
    fault f (subst (λ b. StringFault end start (length content) b f) (sym r.2) (run_goes end start (length content) r.0 rest f r.1 (omega (arith, r.4, count)) (subst (λ n. StringFault end start n rest f) count h)))

pub after_run_text : (left content new rest : List ℕ) → IsRun left content new rest → IsUtf8 (content ++ left) → IsUtf8 (new ++ rest)
after_run_text left content new rest r u =
    subst IsUtf8 (ap (λ l. content ++ l) r.2 ∙ sym (append_assoc content r.0 rest) ∙ ap (λ n. n ++ rest) (sym r.3)) u

-- ---- a string that is one run

pub run_text : (bytes text after : List ℕ) (n : ℕ) → ArePlain (take n bytes) → bytes ≡ take n bytes ++ 34 ∷ after → text ≡ take n bytes → StringAt bytes text after
run_text bytes text after n all whole is =
    subst (λ b. StringAt b text after) (sym whole)
    (subst (λ c. StringAt (take n bytes ++ 34 ∷ after) c after) (append-nil (take n bytes) ∙ sym is) (run_reads (take n bytes) (34 ∷ after) [] after all (closing after)))
