-- Patterns may cross threads. The parts of one are shared, so each of the two laws asks both of the parts.
use Rattle.std.proofs.Crossing.{Arc-send, Arc-sync}
use mathlib.Core.List.{List, [], ◌∷◌}
use denote.RattleType.{RattleType}
use denote.Param.Send.{IsSend, IsSync, plain_send, plain_sync}
use denote.Param.SendFields.{as_row_send, as_row_sync, variants_send, variants_sync, VariantsHave}
use denote.Hole.{as_row}
use denote.Struct.Field.{Field, u8-field, u32-field}
use denote.Hole.Layer.{enum_layer}
use denote.Hole.FixSend.{Crosses, both_send, both_sync}
use Rattle.std.specs.contracts.sync.Arc as arc
use Rattle.std.specs.contracts.alloc.Global as global
use Rattle.std.specs.contracts.impls.GlobalAllocator.TheImpl.{ghosts}
use Rattle.pat_patterns.specs.contracts.pattern.Pattern as pattern
use Rattle.pat_patterns.specs.declared.pattern.Pattern.TheBlock.{the_members}

tag_send : IsSend (u8-field).row
tag_send = plain_send _ _ _ _ _

tag_sync : IsSync (u8-field).row
tag_sync = plain_sync _ _ _ _ _

number_send : IsSend (u32-field).row
number_send = plain_send _ _ _ _ _

number_sync : IsSync (u32-field).row
number_sync = plain_sync _ _ _ _ _

-- a part of a pattern, where `h` stands for the patterns below
abbrev part : RattleType → Field
part h = arc.the_field h global.the_row ghosts

-- the fields of the variants, in their order
abbrev variants : RattleType → List (List Field)
variants h = [] ∷ [] ∷ (u8-field ∷ []) ∷ (part h ∷ part h ∷ []) ∷ (part h ∷ part h ∷ []) ∷ (part h ∷ []) ∷ (u32-field ∷ []) ∷ []

part_send : (h : RattleType) → IsSend h → IsSync h → IsSend (as_row (part h))
part_send h s y = as_row_send (part h) (Arc-send h s y)

part_sync : (h : RattleType) → IsSend h → IsSync h → IsSync (as_row (part h))
part_sync h s y = as_row_sync (part h) (Arc-sync h s y)

all_send : (h : RattleType) → IsSend h → IsSync h → VariantsHave IsSend (variants h)
all_send h s y = let p = part_send h s y in (tt, (tt, ((as_row_send u8-field tag_send, tt), ((p, (p, tt)), ((p, (p, tt)), ((p, tt), ((as_row_send u32-field number_send, tt), tt)))))))

all_sync : (h : RattleType) → IsSend h → IsSync h → VariantsHave IsSync (variants h)
all_sync h s y = let p = part_sync h s y in (tt, (tt, ((as_row_sync u8-field tag_sync, tt), ((p, (p, tt)), ((p, (p, tt)), ((p, tt), ((as_row_sync u32-field number_sync, tt), tt)))))))

layer_crosses : (i : the_members) → Crosses pattern.the_ring i
layer_crosses the_members.member-Pattern = record {
  send = λ h s y. let i = the_members.member-Pattern in variants_send (enum_layer _ _ _ (variants (h i))) (all_send (h i) (s i) (y i));
  sync = λ h s y. let i = the_members.member-Pattern in variants_sync (enum_layer _ _ _ (variants (h i))) (all_sync (h i) (s i) (y i));
}

hole_send : IsSend pattern.the_hole
hole_send = both_send pattern.the_ring layer_crosses the_members.member-Pattern

hole_sync : IsSync pattern.the_hole
hole_sync = both_sync pattern.the_ring layer_crosses the_members.member-Pattern

pub pattern_send : IsSend pattern.the_row
pattern_send = variants_send pattern.enum (all_send pattern.the_hole hole_send hole_sync)

pub pattern_sync : IsSync pattern.the_row
pattern_sync = variants_sync pattern.enum (all_sync pattern.the_hole hole_send hole_sync)
