-- An edit by its head and its rest.
use Rattle.std.proofs.Common.{◌≡◌, ◌∙◌, inl, inr, ℕ, List, None, Some, ap, sym, subst, refl}
use Rattle.std.specs.Prelude.{codes}
use Rattle.std.proofs.lemmas.Bool.{false≢true}
use Rattle.std.proofs.lemmas.Slice.Eq.{bytes_eq-Decides}
use Rattle.sx_model.specs.Faults.{Faults}
use Rattle.sx_model.specs.StringFaults.{FrontFault}
use Rattle.sx_run.specs.Spelling.{Heads, HeadsNumbered, HeadsPlace, LeadsToName, LeadsToValue, SpellsEdit, SpellsNumbered}
use Rattle.sx_script.specs.Edits.{EndsAs, EndsEdit, EndsFault, IsEditText, Leads, SpellsEditFault}
use Rattle.sx_script.specs.Words.{front_of}
use Rattle.sx_script.specs.declared.edits.EditText.{EditText}
use Rattle.sx_script.specs.declared.edits.EditText.TheVariants as texts
use Rattle.sx_script.specs.declared.heads.Head.{Head}
use Rattle.sx_script.specs.declared.heads.Head.TheVariants as heads
use Rattle.sx_script.proofs.OneFront.{heads_one, numbered_one, place_one}
use Rattle.sx_tree.specs.declared.edit.Edit.{Edit}
use Rattle.sx_tree.specs.declared.edit.Edit.TheVariants as edits
use Rattle.sx_tree.specs.declared.edit.Place.{Place}
use Rattle.sx_tree.specs.declared.json_fault.JsonFault.{JsonFault}

-- ---- one head at most

abbrev head_word : Head → List ℕ
head_word heads.Load = codes "load"
head_word (heads.Insert place) = codes "insert"
head_word (heads.Field place) = codes "field"
head_word (heads.Set k) = codes "set"
head_word (heads.Replace k) = codes "replace"
head_word (heads.Rename k) = codes "rename"

head_front : (text : List ℕ) (h : Head) (rest : List ℕ) → Leads text h rest → front_of 32 text ≡ head_word h
head_front text heads.Load rest leads = ap (front_of 32) leads
head_front text (heads.Insert place) rest leads = ap (front_of 32) leads.1
head_front text (heads.Field place) rest leads = ap (front_of 32) leads.1
head_front text (heads.Set k) rest leads = ap (front_of 32) leads.2
head_front text (heads.Replace k) rest leads = ap (front_of 32) leads.2
head_front text (heads.Rename k) rest leads = ap (front_of 32) leads.2

leads_one : (text : List ℕ) (h g : Head) (rest left : List ℕ) → Leads text h rest → Leads text g left → (h ≡ g) × (rest ≡ left)
leads_one text heads.Load heads.Load rest left one other = (refl, heads_one text (codes "load") rest left one other)
leads_one text (heads.Insert p) (heads.Insert q) rest left one other =
    let same = place_one text (codes "insert") p q rest left one other in (ap heads.Insert same.0, same.1)
leads_one text (heads.Field p) (heads.Field q) rest left one other =
    let same = place_one text (codes "field") p q rest left one other in (ap heads.Field same.0, same.1)
leads_one text (heads.Set k) (heads.Set m) rest left one other =
    let same = numbered_one text (codes "set") k m rest left one other in (ap heads.Set same.0, same.1)
leads_one text (heads.Replace k) (heads.Replace m) rest left one other =
    let same = numbered_one text (codes "replace") k m rest left one other in (ap heads.Replace same.0, same.1)
leads_one text (heads.Rename k) (heads.Rename m) rest left one other =
    let same = numbered_one text (codes "rename") k m rest left one other in (ap heads.Rename same.0, same.1)
leads_one text h g rest left one other =
    absurd (false≢true ((bytes_eq-Decides (head_word h) (head_word g)).1 (sym (head_front text h rest one) ∙ head_front text g left other)))

-- the text leads to no edit
pub no_head : (text : List ℕ) → ((rest : List ℕ) → Heads text (codes "load") rest → ⊥)
    → ((p : Place) (rest : List ℕ) → HeadsPlace text (codes "insert") p rest → ⊥) → ((p : Place) (rest : List ℕ) → HeadsPlace text (codes "field") p rest → ⊥)
    → ((k : ℕ) (rest : List ℕ) → HeadsNumbered text (codes "set") k rest → ⊥) → ((k : ℕ) (rest : List ℕ) → HeadsNumbered text (codes "replace") k rest → ⊥)
    → ((k : ℕ) (rest : List ℕ) → HeadsNumbered text (codes "rename") k rest → ⊥) → (h : Head) (rest : List ℕ) → Leads text h rest → ⊥
no_head text load insert field set replace rename heads.Load rest leads = load rest leads
no_head text load insert field set replace rename (heads.Insert p) rest leads = insert p rest leads
no_head text load insert field set replace rename (heads.Field p) rest leads = field p rest leads
no_head text load insert field set replace rename (heads.Set k) rest leads = set k rest leads
no_head text load insert field set replace rename (heads.Replace k) rest leads = replace k rest leads
no_head text load insert field set replace rename (heads.Rename k) rest leads = rename k rest leads

-- ---- the edit that the parts make

joined : (text : List ℕ) (h : Head) (rest : List ℕ) (e : Edit) → Leads text h rest → EndsEdit h rest e → SpellsEdit text e
joined text heads.Load rest e leads ends = subst (λ (x : Edit). SpellsEdit text x) (sym ends.1) (rest, leads, ends.2)
joined text (heads.Insert p) rest e leads ends = subst (λ (x : Edit). SpellsEdit text x) (sym ends.1) (rest, leads, ends.2)
joined text (heads.Field p) rest e leads ends = subst (λ (x : Edit). SpellsEdit text x) (sym ends.2) (rest, ends.3.0, leads, ends.3.1, ends.3.2)
joined text (heads.Set k) rest e leads ends = subst (λ (x : Edit). SpellsEdit text x) (sym ends.1) (rest, leads, ends.2)
joined text (heads.Replace k) rest e leads ends = subst (λ (x : Edit). SpellsEdit text x) (sym ends.1) (rest, leads, ends.2)
joined text (heads.Rename k) rest e leads ends = subst (λ (x : Edit). SpellsEdit text x) (sym ends.1) (rest, leads, ends.2)

joined_fault : (text : List ℕ) (h : Head) (rest : List ℕ) (f : JsonFault) → Leads text h rest → EndsFault h rest f → SpellsEditFault text f
joined_fault text heads.Load rest f leads ends = inr (rest, inl leads, ends)
joined_fault text (heads.Insert p) rest f leads ends = inr (rest, inr (inl (p, leads)), ends)
joined_fault text (heads.Field p) rest f leads (inl fault) = inl (rest, inl (p, leads), fault)
joined_fault text (heads.Field p) rest f leads (inr value) = inr (value.1, inr (inr (inl (p, rest, value.0, leads, value.2))), value.3)
joined_fault text (heads.Set k) rest f leads ends = inr (rest, inr (inr (inr (inl (k, leads)))), ends)
joined_fault text (heads.Replace k) rest f leads ends = inr (rest, inr (inr (inr (inr (k, leads)))), ends)
joined_fault text (heads.Rename k) rest f leads ends = inl (rest, inr (k, leads), ends)

-- ---- the parts of an edit

record Parts (text : List ℕ) (P : Head → List ℕ → Type 0) : Type 0 where
  head : Head
  rest : List ℕ
  leads : Leads text head rest
  ends : P head rest

parts : (text : List ℕ) (e : Edit) → ((k : ℕ) → SpellsNumbered text (codes "remove") k → ⊥) → SpellsEdit text e → Parts text (λ h rest. EndsEdit h rest e)
parts text (edits.Load v) none s = record { head = heads.Load; rest = s.0; leads = s.1; ends = (v, refl, s.2) }
parts text (edits.Insert p None v) none s = record { head = heads.Insert p; rest = s.0; leads = s.1; ends = (v, refl, s.2) }
parts text (edits.Insert p (Some name) v) none s = record { head = heads.Field p; rest = s.0; leads = s.2; ends = (name, v, refl, (s.1, s.3, s.4)) }
parts text (edits.SetScalar k v) none s = record { head = heads.Set k; rest = s.0; leads = s.1; ends = (v, refl, s.2) }
parts text (edits.Replace k v) none s = record { head = heads.Replace k; rest = s.0; leads = s.1; ends = (v, refl, s.2) }
parts text (edits.Rename k name) none s = record { head = heads.Rename k; rest = s.0; leads = s.1; ends = (name, refl, s.2) }
parts text (edits.Remove k) none s = absurd (none k s)

name_parts : (text quoted : List ℕ) (f : JsonFault) → LeadsToName text quoted → FrontFault quoted f → Parts text (λ h rest. EndsFault h rest f)
name_parts text quoted f (inl l) fault = record { head = heads.Field l.0; rest = quoted; leads = l.1; ends = inl fault }
name_parts text quoted f (inr l) fault = record { head = heads.Rename l.0; rest = quoted; leads = l.1; ends = fault }

value_parts : (text json : List ℕ) (f : JsonFault) → LeadsToValue text json → Faults json f → Parts text (λ h rest. EndsFault h rest f)
value_parts text json f (inl l) fault = record { head = heads.Load; rest = json; leads = l; ends = fault }
value_parts text json f (inr (inl l)) fault = record { head = heads.Insert l.0; rest = json; leads = l.1; ends = fault }
value_parts text json f (inr (inr (inl l))) fault = record { head = heads.Field l.0; rest = l.1; leads = l.3; ends = inr (l.2, json, l.4, fault) }
value_parts text json f (inr (inr (inr (inl l)))) fault = record { head = heads.Set l.0; rest = json; leads = l.1; ends = fault }
value_parts text json f (inr (inr (inr (inr l)))) fault = record { head = heads.Replace l.0; rest = json; leads = l.1; ends = fault }

fault_parts : (text : List ℕ) (f : JsonFault) → SpellsEditFault text f → Parts text (λ h rest. EndsFault h rest f)
fault_parts text f (inl named) = name_parts text named.0 f named.1 named.2
fault_parts text f (inr led) = value_parts text led.0 f led.1 led.2

-- ---- what a text is as an edit

-- the parts of a text whose head and rest are known
known_parts : (text : List ℕ) (h : Head) (rest : List ℕ) (P : Head → List ℕ → Type 0) → Leads text h rest → Parts text P → P h rest
known_parts text h rest P leads p =
    let same = leads_one text p.head h p.rest rest p.leads leads in
    subst (λ (r : List ℕ). P h r) same.1 (subst (λ (g : Head). P g p.rest) same.0 p.ends)

pub edit_text : (text : List ℕ) (h : Head) (rest : List ℕ) (t : EditText) → ((k : ℕ) → SpellsNumbered text (codes "remove") k → ⊥) → Leads text h rest → EndsAs h rest t
    → IsEditText text t
edit_text text h rest (texts.Edit e) none leads ends = joined text h rest e leads ends
edit_text text h rest (texts.Fault f) none leads ends = (joined_fault text h rest f leads ends.0, ends.1)
edit_text text h rest texts.Other none leads ends = (
  λ e spells. ends.0 e (known_parts text h rest (λ g r. EndsEdit g r e) leads (parts text e none spells)),
  λ f fault. ends.1 f (known_parts text h rest (λ g r. EndsFault g r f) leads (fault_parts text f fault)),
)

pub no_edit_text : (text : List ℕ) → ((k : ℕ) → SpellsNumbered text (codes "remove") k → ⊥) → ((h : Head) (rest : List ℕ) → Leads text h rest → ⊥)
    → IsEditText text texts.Other
no_edit_text text none never = (
  λ e spells. let p = parts text e none spells in never p.head p.rest p.leads,
  λ f fault. let p = fault_parts text f fault in never p.head p.rest p.leads,
)
