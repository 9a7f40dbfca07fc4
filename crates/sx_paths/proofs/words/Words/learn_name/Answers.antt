use Rattle.std.proofs.Common.{◌≡◌, ℕ, ◌+◌, List, Some, None, rules, string_bytes, subst, ap, ◌∙◌, cond}
use Rattle.std.specs.Prelude.{is_some}
use Rattle.std.proofs.lemmas.Map.Text.{btree_map_updates_text}
use Rattle.std.specs.BTreeMap.{get_by_text, btree_map_len}
use Rattle.std.specs.Map.{update}
use Rattle.std.specs.Str.{bytes_eq}
use Rattle.sx_paths.proofs.WordLemmas.{names_kept, AreNumbered-learned}
use Rattle.sx_paths.proofs.words.Words.learn_name.Goals as goal

pub returns-clause-kept : goal.returns-clause-kept
returns-clause-kept c =
    let key : string_bytes c.in_ok-key.key ≡ c.args.name.now = search rules in
    let none : get_by_text c.args.self.now.names c.args.name.now ≡ None = search rules in
    let updates : (q : List ℕ) → get_by_text c.insert.new.self q ≡ update bytes_eq (get_by_text c.args.self.now.names) c.args.name.now (Some (c.len.result + 2)) q
    = λ q. subst (λ k. get_by_text c.insert.new.self q ≡ update bytes_eq (get_by_text c.args.self.now.names) k (Some (c.len.result + 2)) q) key
    (btree_map_updates_text (string_bytes c.in_ok-key.key) c.args.self.now.names c.insert.new.self (Some (c.len.result + 2)) c.in_ok-insert.ensures.updates q) in
    names_kept c.args.self.now.names c.insert.new.self c.args.name.now (c.len.result + 2) none updates

pub returns-clause-numbered : goal.returns-clause-numbered
returns-clause-numbered c =
    let key : string_bytes c.in_ok-key.key ≡ c.args.name.now = search rules in
    let none : get_by_text c.args.self.now.names c.args.name.now ≡ None = search rules in
    let updates : (q : List ℕ) → get_by_text c.insert.new.self q ≡ update bytes_eq (get_by_text c.args.self.now.names) c.args.name.now (Some (c.len.result + 2)) q
    = λ q. subst (λ k. get_by_text c.insert.new.self q ≡ update bytes_eq (get_by_text c.args.self.now.names) k (Some (c.len.result + 2)) q) key
    (btree_map_updates_text (string_bytes c.in_ok-key.key) c.args.self.now.names c.insert.new.self (Some (c.len.result + 2)) c.in_ok-insert.ensures.updates q) in
    let before : c.in_ok-insert.field-0 ≡ None = c.in_ok-insert.ensures.old ∙ ap (get_by_text c.args.self.now.names) key ∙ none in
    let len : btree_map_len c.insert.new.self ≡ btree_map_len c.args.self.now.names + 1 =
    c.in_ok-insert.ensures.len ∙ ap (λ o. btree_map_len c.args.self.now.names + cond (is_some o) 0 1) before in
    AreNumbered-learned c.args.self.now.names c.insert.new.self c.args.name.now (c.len.result + 2) none updates c.requires (ap (λ n. n + 2) c.len.ensures.len) len
