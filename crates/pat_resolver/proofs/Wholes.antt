-- What a program that was made says of its tree.
use Rattle.std.proofs.Common.{◌≡◌, ◌++◌, ℕ, List, [], map, Result, Ok, Err, None, sym, subst}
use Rattle.std.specs.Prelude.{IfOk}
use Rattle.pat_parser_spec.specs.Trees.{Tree}
use Rattle.pat_resolver_spec.specs.Heads.{InterfaceNames, Heads, interface_names, heads_of, definitions_of}
use Rattle.pat_resolver_spec.specs.Findings.{heads_findings, main_findings, main_of, bodies_findings, findings}
use Rattle.pat_resolver_spec.specs.Numbering.{numbered}
use Rattle.pat_resolver_spec.specs.Places.{places}
use Rattle.pat_resolver_spec.specs.Claims.{IsWritten}
use Rattle.pat_resolver_spec.specs.Resolved.{IsResolved}
use Rattle.pat_resolver_laws.proofs.Resolved.{resolved}
use Rattle.pat_core.specs.Views.{program_view}
use Rattle.pat_core.specs.declared.program.Program.{Program}
use Rattle.pat_tree.specs.Views.{decl_view}
use Rattle.pat_tree.specs.declared.tree.Decl.{Decl}
use Rattle.pat_resolver_heads.specs.results.Views.{places_view}
use Rattle.pat_resolver_heads.specs.results.Results.{first_of, Meets}
use Rattle.pat_resolver_heads.specs.declared.results.error.ResolveError.{ResolveError}
use Rattle.pat_resolver_heads.proofs.Firsts.{first_none, meets_behind}

-- it is all that later calls ask of a program
pub is_resolved : (end : ℕ) (t : Tree) (r : Result Program ResolveError) → IsWritten t → Meets r (findings end t) → IfOk r (λ p. program_view p ≡ numbered t) → IfOk r (λ p. places_view p ≡ places t) → IfOk r (λ p. IsResolved (program_view p) (places_view p))
is_resolved end t (Ok p) written none is at =
    subst (IsResolved (program_view p)) (sym at) (resolved end t (program_view p) written (record { sound = first_none (findings end t) none; program = sym is }))
is_resolved end t (Err e) written none is at = tt

-- where nothing is found in the heads, a result that meets the bodies meets the whole
pub meets_bodies : {A : Type 0} (r : Result A ResolveError) (end : ℕ) (t : Tree) (names : List InterfaceNames) (h : Heads) (ds : List Decl) → first_of (heads_findings (interface_names t) [] [] t ++ main_findings end (main_of t)) ≡ None → names ≡ interface_names t → h ≡ heads_of t → map decl_view ds ≡ t → Meets r (bodies_findings names h (definitions_of (map decl_view ds))) → Meets r (findings end t)
meets_bodies r end t names h ds none same_names same_heads same_decls m =
    let at_tree = subst (λ u. Meets r (bodies_findings names h (definitions_of u))) same_decls m in
    let at_names = subst (λ n. Meets r (bodies_findings n h (definitions_of t))) same_names at_tree in
    let at_heads = subst (λ k. Meets r (bodies_findings (interface_names t) k (definitions_of t))) same_heads at_names in
    meets_behind r (heads_findings (interface_names t) [] [] t ++ main_findings end (main_of t)) (bodies_findings (interface_names t) (heads_of t) (definitions_of t)) none at_heads
