use Rattle.std.proofs.Common.{◌<◌, [], length, get_or, sym, ap, subst, ◌∙◌, arith}
use Rattle.std.proofs.lemmas.List.{get_or_default}
use Rattle.pat_grid_sums.specs.Systems.{setting_in, set_at, IsGrown}
use Rattle.pat_grid_sums.proofs.Looking.{not_looked, looked_same, looked_grown}
use Rattle.pat_grid_sums.proofs.least.look.Goals as goal

pub is_same-requires : goal.is_same-requires
is_same-requires c =
    let a = c.args in
    let there : a.s < length c.as_slice-3.result.now = (let e = ap length c.as_slice-3.ensures in let m = c.requires.stands.are.as_many in let l = c.requires.there in omega arith) in
    let own = c.as_slice-4.ensures ∙ c.index-as_slice-s.is ∙ get_or_default c.as_slice-3.result.now a.s c.index-as_slice-s.result [] there ∙ ap (λ xs. set_at xs a.s) c.as_slice-3.ensures in
    ap length c.as_slice-2.ensures ∙ c.in_ok-words.ensures.stepped.as_many ∙ sym (ap length own ∙ c.requires.stands.are.as_long a.s c.requires.there)

pub returns-then-not-waits : goal.returns-then-not-waits
returns-then-not-waits c =
    let a = c.args in
    not_looked (setting_in a.system.now) a.shape.width a.shape.words (length a.system.now.symbols.now) a.now a.s a.sets.now a.marks.now.looked a.marks.now.changed c.requires.there c.requires.stands (c.waits.ensures c.if-not-waits.true)

pub returns-then-is_same : goal.returns-then-is_same
returns-then-is_same c =
    let a = c.args in
    let y = a.system.now in
    let there : a.s < length c.as_slice-3.result.now = (let e = ap length c.as_slice-3.ensures in let m = c.requires.stands.are.as_many in let l = c.requires.there in omega arith) in
    let own = c.as_slice-4.ensures ∙ c.index-as_slice-s.is ∙ get_or_default c.as_slice-3.result.now a.s c.index-as_slice-s.result [] there ∙ ap (λ xs. set_at xs a.s) c.as_slice-3.ensures in
    let grown = subst (λ xs. IsGrown (setting_in y) a.shape.width a.shape.words xs a.s c.in_ok-words.words) c.as_slice.ensures c.in_ok-words.ensures in
    looked_same y a.shape.width a.shape.words (length y.symbols.now) a.s a.sets.now c.in_ok-words.words c.requires.stands.are c.requires.there grown a.now a.marks.now.looked a.marks.now.changed c.requires.stands c.put_number.new.numbers c.put_number.ensures
    (λ h. ap (λ xs. get_or xs h 0) (sym c.as_slice-2.ensures) ∙ c.is_same.ensures c.if-is_same.true h ∙ ap (λ xs. get_or xs h 0) own)

pub returns : goal.returns
returns c =
    let a = c.args in
    let y = a.system.now in
    let grown = subst (λ xs. IsGrown (setting_in y) a.shape.width a.shape.words xs a.s c.in_ok-words.words) c.as_slice.ensures c.in_ok-words.ensures in
    looked_grown y a.shape.width a.shape.words (length y.symbols.now) a.s a.sets.now c.in_ok-words.words c.requires.stands.are c.requires.there grown a.now a.marks.now.looked a.marks.now.changed c.requires.stands c.put_set.new.sets c.put_number.new.numbers c.put_number-2.new.numbers c.put_set.ensures c.put_number.ensures c.put_number-2.ensures
