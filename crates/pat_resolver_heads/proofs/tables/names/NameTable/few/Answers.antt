use Rattle.std.proofs.Common.{ℕ, map, take, ap, sym, ◌∙◌}
use Rattle.std.proofs.lemmas.List.{take_min, take-map}
use Rattle.pat_resolver_heads.proofs.tables.names.NameTable.few.Goals as goal

pub returns : goal.returns
returns c =
    let texts = c.as_slice-names.result.now in
    ap (λ (n : ℕ). map (λ n. n.now) (take n texts)) c.min.ensures
    ∙ ap (map (λ n. n.now)) (take_min 16 texts ∙ ap (take 16) c.as_slice-names.ensures)
    ∙ sym (take-map (λ n. n.now) 16 c.self.inside.names) ∙ ap (take 16) c.self.view_is
