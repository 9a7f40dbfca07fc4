-- Numbers of trees that are to go.
use Rattle.std.specs.Prelude.{ℕ, List, [], ◌∷◌, map, reverse, Option}
use Rattle.sx_tree.specs.declared.record.NodeRecord.{NodeRecord}
use Rattle.sx_view.specs.Records.{RecordMap}
use Rattle.sx_edit.specs.Links.{LeadsTo}
use Rattle.sx_edit.specs.declared.clear.Link.{Link}

-- the numbers to which the links lead, that of the last link first
abbrev pub tops_of : List Link → List ℕ
tops_of links = map (λ link. link.to) (reverse links)

-- each of the links is told
abbrev pub AllLead : Option (RecordMap NodeRecord) → List Link → Type 0
AllLead o [] = Unit {0}
AllLead o (link ∷ links) = LeadsTo o link.from link.to × AllLead o links
