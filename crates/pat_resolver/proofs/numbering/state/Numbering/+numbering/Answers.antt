use Rattle.std.proofs.Common.{rules, arith, ◌≡◌, ◌+◌, ◌-◌, ◌<◌, ℕ, suc, get_or, List, [], ◌∷◌, Some, None, length, drop, map, refl, ap, sym, ◌∙◌, subst, OnOk}
use Rattle.std.specs.Prelude.{option_map}
use Rattle.std.proofs.lemmas.List.{length-map}
use Rattle.pat_parser_spec.specs.Trees as tree
use Rattle.pat_parser_spec.specs.Trees.{listed}
use Rattle.pat_tree.specs.Views.{clause_view, expr_view, name_view, pattern_view, span_view, term_at, term_view}
use Rattle.pat_tree.specs.declared.term.Form.TheViews.{the_lemmas}
use Rattle.pat_core.specs.Views.{kind_view}
use Rattle.pat_core.specs.declared.program.Kind.TheVariants as kind
use Rattle.pat_resolver_heads.specs.declared.tables.scope.Variable.{Variable}
use Rattle.pat_resolver.specs.declared.numbering.state.Numbering.{Numbering}
use Rattle.pat_resolver.specs.numbering.Progress.{AddsTerm, ClausesFit, TermFits}
use Rattle.pat_resolver.proofs.Adding.{grown}
use Rattle.pat_resolver.proofs.Branching.{first_fits, second_fits, second_number, if_done}
use Rattle.pat_resolver.proofs.Ending.{guard_view, ok_then}
use Rattle.pat_resolver.proofs.Guarding.{Passed, clauses_left, clauses_more, one_fits, guard_done, names_within, bound_scope, receive_adds, receive_fits}
use Rattle.pat_resolver.proofs.Letting.{bound_fits, bound_number, kind_is, kind_within, let_done, let_fits, own_kind, own_numbered, walk_more, Walked}
use Rattle.pat_resolver.proofs.numbering.state.Numbering.+numbering.Goals as goal

pub number_guard-returns : goal.number_guard-returns
number_guard-returns t c =
    guard_done c.args.context.now (kind_view c.args.spot.kind) (name_view c.args.name.now) (pattern_view c.args.pattern.now) _ _ (span_view c.args.spot.span)
    c.args.self.now c.reserve.new.self c.number_clauses.new.self c.fill.new.self _
    c.guarded_interface-interface.result c.variable_number.result c.len-place.result _ c.in_ok-bodies.bodies _
    c.len-place.ensures c.in_ok-reserve.ensures c.guarded_interface-interface.ensures
    (ap (λ q. listed (map clause_view q)) c.as_slice.ensures.value)
    c.in_ok-bodies.ensures.added c.in_ok-bodies.ensures.noted c.in_ok-pattern.ensures c.variable_number.ensures refl refl c.fill.ensures

pub number_last-number_guard-requires : goal.number_last-number_guard-requires
number_last-number_guard-requires t c =
    let at = span_view c.args.term.now.span in
    let same = ap (λ f. term_at f at) c.in-Guard.is ∙ guard_view c.in-Guard.name c.in-Guard.pattern c.in-Guard.clauses at in
    (search (rules, the_lemmas), subst (λ (q : tree.Term). TermFits c.args.context.now c.args.self.now q) same c.requires.fits)

pub number_last-returns-in-Guard : goal.number_last-returns-in-Guard
number_last-returns-in-Guard t c =
    let at = span_view c.args.term.now.span in
    let same = ap (λ f. term_at f at) c.in-Guard.is ∙ guard_view c.in-Guard.name c.in-Guard.pattern c.in-Guard.clauses at in
    subst (λ (q : tree.Term). OnOk c.number_guard.result (AddsTerm c.args.context.now (kind_view c.args.kind) q c.args.self.now c.number_guard.new.self)) (sym same) c.number_guard.ensures

pub number_named-bounds-context-own : goal.number_named-bounds-context-own
number_named-bounds-context-own t c =
    kind_within c.args.context.now.kinds.now c.args.self.now.next _ (own_kind c.args.context.now c.args.self.now (name_view c.args.name.now) (term_view c.args.bound.now) c.requires)

pub number_named-number_term-requires : goal.number_named-number_term-requires
number_named-number_term-requires t c =
    (search (rules, the_lemmas), bound_fits c.args.context.now (Some (name_view c.args.name.now)) (term_view c.args.bound.now) c.args.self.now _ _ _ c.requires (own_numbered c.args.self.now c.reserve.new.self _ _ c.in_ok-reserve.ensures))

pub number_named-overflow_cast-core-2 : goal.number_named-overflow_cast-core-2
number_named-overflow_cast-core-2 t c =
    let e = bound_number c.args.context.now _ (Some (name_view c.args.name.now)) (term_view c.args.bound.now) c.args.self.now _ c.number_term.new.self _ _ (own_numbered c.args.self.now c.reserve.new.self _ _ c.in_ok-reserve.ensures) c.in_ok-number_term.ensures in
    omega (arith, e, c.requires.room, c.len.ensures)

pub number_named-fill-requires : goal.number_named-fill-requires
number_named-fill-requires t c =
    let e = bound_number c.args.context.now _ (Some (name_view c.args.name.now)) (term_view c.args.bound.now) c.args.self.now _ c.number_term.new.self _ _ (own_numbered c.args.self.now c.reserve.new.self _ _ c.in_ok-reserve.ensures) c.in_ok-number_term.ensures in
    omega (arith, e, c.len-place.ensures)

pub number_named-returns : goal.number_named-returns
number_named-returns t c =
    let s = c.args.self.now in
    let r = c.number_term.new.self in
    let own = own_kind c.args.context.now s (name_view c.args.name.now) (term_view c.args.bound.now) c.requires in
    let j = get_or c.args.context.now.kinds.now s.next kind.Unit in
    let variable : Variable = record { name = c.args.name.now.text; number = s.next; kind = j } in
    ok_then c.push.result _ _ c.push.ensures.pushed
    (λ pushed. let_done c.args.context.now (kind_view c.args.spot.kind) (kind_view j) (span_view c.args.spot.span) (Some (name_view c.args.name.now)) (term_view c.args.bound.now)
    s _ r _ (variable ∷ []) _ _ c.len-place.result c.len.result
    c.len-place.ensures c.len.ensures (own_numbered s c.reserve.new.self _ _ c.in_ok-reserve.ensures)
    (kind_is c.args.context.now.kinds.now s.next _ kind.Unit own) c.in_ok-number_term.ensures refl refl
    (ap (λ (q : Numbering). q.nodes) c.fill.ensures) (pushed ∙ ap (λ (q : Numbering). variable ∷ q.scope) c.fill.ensures) (ap (λ (q : Numbering). q.next) c.fill.ensures) refl)

pub number_receive-bind_names-requires-clause-kinds : goal.number_receive-bind_names-requires-clause-kinds
number_receive-bind_names-requires-clause-kinds t c =
    let within = names_within c.args.context.now c.args.interface c.args.self.now (name_view c.args.tag.now) (map name_view c.args.names.now) (name_view c.args.from.now) (term_view c.args.body.now) c.requires in
    omega (arith, within, length-map c.args.names.now name_view)

pub number_receive-number_term-requires : goal.number_receive-number_term-requires
number_receive-number_term-requires t c =
    let s = c.args.self.now in
    let q = c.bind_names.new.self in
    let xs = map name_view c.args.names.now in
    let count = length-map c.args.names.now name_view in
    let next : q.next ≡ s.next + length xs = omega (arith, c.in_ok-vars.ensures.next, count) in
    let r : Numbering = record { nodes = q.nodes; scope = c.push.new.self; next = q.next + 1 } in
    let scope = bound_scope c.args.context.now c.args.interface s (name_view c.args.tag.now) xs (name_view c.args.from.now) (term_view c.args.body.now) c.requires q r _ next c.in_ok-vars.ensures.scope c.in_ok-push.ensures.pushed refl in
    (search (rules, the_lemmas), receive_fits c.args.context.now c.args.interface s (name_view c.args.tag.now) xs (name_view c.args.from.now) (term_view c.args.body.now) c.requires r c.in_ok-vars.ensures.nodes (omega (arith, next)) scope)

pub number_receive-returns-clause-added : goal.number_receive-returns-clause-added
number_receive-returns-clause-added t c =
    let s = c.args.self.now in
    let q = c.bind_names.new.self in
    let o = c.number_term.new.self in
    let xs = map name_view c.args.names.now in
    let count = length-map c.args.names.now name_view in
    let next : q.next ≡ s.next + length xs = omega (arith, c.in_ok-vars.ensures.next, count) in
    let r : Numbering = record { nodes = q.nodes; scope = c.push.new.self; next = q.next + 1 } in
    let scope = bound_scope c.args.context.now c.args.interface s (name_view c.args.tag.now) xs (name_view c.args.from.now) (term_view c.args.body.now) c.requires q r _ next c.in_ok-vars.ensures.scope c.in_ok-push.ensures.pushed refl in
    let deeper = ap length c.in_ok-push.ensures.pushed in
    receive_adds c.args.context.now c.args.interface s (name_view c.args.tag.now) xs (name_view c.args.from.now) (term_view c.args.body.now) c.requires
    (kind_view c.args.kind) r o _ c.len-outer.result (c.len.result - c.len-outer.result)
    c.in_ok-vars.ensures.nodes (omega (arith, next)) scope (omega (arith, deeper, count, c.in_ok-vars.ensures.outer.0))
    (ap (drop (suc (length xs))) c.in_ok-push.ensures.pushed ∙ ap (λ (j : ℕ). drop j q.scope) count ∙ c.in_ok-vars.ensures.outer.1)
    c.in_ok-number_term.ensures c.len-outer.ensures (ap (λ (j : ℕ). j - c.len-outer.result) c.len.ensures)
    (ap (λ (j : List Variable). record o { scope = j }) c.pop.ensures)

pub number_sequence-number_term-requires : goal.number_sequence-number_term-requires
number_sequence-number_term-requires t c =
    (search (rules, the_lemmas), bound_fits c.args.context.now None (term_view c.args.bound.now) c.args.self.now c.reserve.new.self _ _ c.requires c.in_ok-reserve.ensures)

pub number_sequence-overflow_cast-core-2 : goal.number_sequence-overflow_cast-core-2
number_sequence-overflow_cast-core-2 t c =
    let e = bound_number c.args.context.now _ None (term_view c.args.bound.now) c.args.self.now c.reserve.new.self c.number_term.new.self _ _ c.in_ok-reserve.ensures c.in_ok-number_term.ensures in
    omega (arith, e, c.requires.room, c.len.ensures)

pub number_sequence-fill-requires : goal.number_sequence-fill-requires
number_sequence-fill-requires t c =
    let e = bound_number c.args.context.now _ None (term_view c.args.bound.now) c.args.self.now c.reserve.new.self c.number_term.new.self _ _ c.in_ok-reserve.ensures c.in_ok-number_term.ensures in
    omega (arith, e, c.len-place.ensures)

pub number_sequence-returns : goal.number_sequence-returns
number_sequence-returns t c =
    let_done c.args.context.now (kind_view c.args.spot.kind) (kind_view kind.Unit) (span_view c.args.spot.span) None (term_view c.args.bound.now)
    c.args.self.now c.reserve.new.self c.number_term.new.self c.fill.new.self [] _ _ c.len-place.result c.len.result
    c.len-place.ensures c.len.ensures c.in_ok-reserve.ensures refl c.in_ok-number_term.ensures refl refl
    (ap (λ (q : Numbering). q.nodes) c.fill.ensures) (ap (λ (q : Numbering). q.scope) c.fill.ensures) (ap (λ (q : Numbering). q.next) c.fill.ensures) refl

pub number_spawn-number_term-requires : goal.number_spawn-number_term-requires
number_spawn-number_term-requires t c =
    (search (rules, the_lemmas), bound_fits c.args.context.now None (term_view c.args.body.now) c.args.self.now c.append.new.self _ _ c.requires c.in_ok-append.ensures)

pub number_clauses-number_clause-requires : goal.number_clauses-number_clause-requires
number_clauses-number_clause-requires t c =
    let items = c.args.clauses.now in
    let i = c.loop-clause.clause-index in
    let within : i < length items = omega arith in
    let same = clauses_left items i c.clause-item.result within c.clause-item.is in (
      search (rules, the_lemmas),
      one_fits c.args.context.now c.args.interface (clause_view c.clause-item.result) _ c.loop-clause.self (subst (λ (q : tree.Clauses). ClausesFit c.args.context.now c.args.interface c.loop-clause.self q) same c.loop-clause.invariant.fits),
    )

pub number_clauses-loop-clause-preserved : goal.number_clauses-loop-clause-preserved
number_clauses-loop-clause-preserved t c =
    let items = c.args.clauses.now in
    let i = c.loop-clause.clause-index in
    let k = kind_view c.args.kind in
    let within : i < length items = omega arith in
    let same = clauses_left items i c.clause-item.result within c.clause-item.is in
    let whole = listed (map clause_view items) in
    clauses_more c.args.context.now c.args.interface k whole (clause_view c.clause-item.result) _ c.args.self.now c.loop-clause.self c.number_clause.new.self c.loop-clause.bodies c.number_clause.new.bodies
    (subst (λ (q : tree.Clauses). Passed c.args.context.now c.args.interface k whole q c.args.self.now c.loop-clause.self c.loop-clause.bodies) same c.loop-clause.invariant)
    c.in_ok-number_clause.ensures.added c.in_ok-number_clause.ensures.noted

pub number_last-number_term-requires : goal.number_last-number_term-requires
number_last-number_term-requires t c =
    let at = span_view c.args.term.now.span in
    let same : term_view c.args.term.now ≡ tree.IfTerm (expr_view c.in-If.test) (term_view c.deref.result.now) (term_view c.in-If.no.value) at =
    ap (λ f. term_at f at) c.in-If.is ∙ ap (λ q. tree.IfTerm (expr_view c.in-If.test) (term_view q) (term_view c.in-If.no.value) at) (sym c.deref.ensures) in (
      search (rules, the_lemmas),
      first_fits c.args.context.now (expr_view c.in-If.test) (term_view c.deref.result.now) (term_view c.in-If.no.value) at c.args.self.now c.reserve.new.self _
          (subst (λ (q : tree.Term). TermFits c.args.context.now c.args.self.now q) same c.requires.fits) c.in_ok-reserve-in-If.ensures,
    )

pub number_last-number_term-requires-in-If : goal.number_last-number_term-requires-in-If
number_last-number_term-requires-in-If t c =
    let at = span_view c.args.term.now.span in
    let same : term_view c.args.term.now ≡ tree.IfTerm (expr_view c.in-If.test) (term_view c.deref.result.now) (term_view c.deref-in-If.result.now) at =
    ap (λ f. term_at f at) c.in-If.is
    ∙ ap (λ q. tree.IfTerm (expr_view c.in-If.test) (term_view q) (term_view c.in-If.no.value) at) (sym c.deref.ensures)
    ∙ ap (λ q. tree.IfTerm (expr_view c.in-If.test) (term_view c.deref.result.now) (term_view q) at) (sym c.deref-in-If.ensures) in (
      search (rules, the_lemmas),
      second_fits c.args.context.now (kind_view c.args.kind) (expr_view c.in-If.test) (term_view c.deref.result.now) (term_view c.deref-in-If.result.now) at c.args.self.now c.reserve.new.self c.number_term.new.self _
          (subst (λ (q : tree.Term). TermFits c.args.context.now c.args.self.now q) same c.requires.fits) c.in_ok-reserve-in-If.ensures c.in_ok-number_term-in-If.ensures,
    )

pub number_last-fill_if-requires-clause-there : goal.number_last-fill_if-requires-clause-there
number_last-fill_if-requires-clause-there t c =
    omega (arith, c.len-place.ensures, grown c.in_ok-reserve-in-If.ensures, grown c.in_ok-number_term-in-If.ensures, grown c.in_ok-number_term-in-If-2.ensures)

pub number_last-fill_if-requires-clause-other : goal.number_last-fill_if-requires-clause-other
number_last-fill_if-requires-clause-other t c =
    let at = span_view c.args.term.now.span in
    let same : term_view c.args.term.now ≡ tree.IfTerm (expr_view c.in-If.test) (term_view c.deref.result.now) (term_view c.in-If.no.value) at =
    ap (λ f. term_at f at) c.in-If.is ∙ ap (λ q. tree.IfTerm (expr_view c.in-If.test) (term_view q) (term_view c.in-If.no.value) at) (sym c.deref.ensures) in
    let fits = subst (λ (q : tree.Term). TermFits c.args.context.now c.args.self.now q) same c.requires.fits in
    let number = second_number c.args.context.now (kind_view c.args.kind) (term_view c.deref.result.now) c.args.self.now c.reserve.new.self c.number_term.new.self _ at c.in_ok-reserve-in-If.ensures c.in_ok-number_term-in-If.ensures in
    omega (arith, fits.room, number, c.len-other.ensures)

pub number_last-returns-in_ok-number_term-in-If-2 : goal.number_last-returns-in_ok-number_term-in-If-2
number_last-returns-in_ok-number_term-in-If-2 t c =
    let at = span_view c.args.term.now.span in
    let same : term_view c.args.term.now ≡ tree.IfTerm (expr_view c.in-If.test) (term_view c.deref.result.now) (term_view c.deref-in-If.result.now) at =
    ap (λ f. term_at f at) c.in-If.is
    ∙ ap (λ q. tree.IfTerm (expr_view c.in-If.test) (term_view q) (term_view c.in-If.no.value) at) (sym c.deref.ensures)
    ∙ ap (λ q. tree.IfTerm (expr_view c.in-If.test) (term_view c.deref.result.now) (term_view q) at) (sym c.deref-in-If.ensures) in
    ok_then c.fill_if.result _ _ c.fill_if.ensures
    (λ f. subst (λ (q : tree.Term). AddsTerm c.args.context.now (kind_view c.args.kind) q c.args.self.now c.fill_if.new.self) (sym same)
    (if_done c.args.context.now (kind_view c.args.kind) (expr_view c.in-If.test) (term_view c.deref.result.now) (term_view c.deref-in-If.result.now) at
    c.args.self.now c.reserve.new.self c.number_term.new.self c.number_term-in-If.new.self c.fill_if.new.self _ c.len-place.result c.len-other.result
    c.len-place.ensures c.len-other.ensures c.in_ok-reserve-in-If.ensures c.in_ok-number_term-in-If.ensures c.in_ok-number_term-in-If-2.ensures f))

pub number_term-number_let-requires : goal.number_term-number_let-requires
number_term-number_let-requires t c =
    let at = span_view c.loop-rest.rest.now.span in
    let x = option_map name_view c.in-Let.name in
    let same : term_view c.loop-rest.rest.now ≡ tree.LetTerm x (term_view c.deref.result.now) (term_view c.in-Let.body.value) at =
    ap (λ f. term_at f at) c.in-Let.is ∙ ap (λ q. tree.LetTerm x (term_view q) (term_view c.in-Let.body.value) at) (sym c.deref.ensures) in (
      search (rules, the_lemmas),
      let_fits c.args.context.now x (term_view c.deref.result.now) (term_view c.in-Let.body.value) at c.loop-rest.self
          (subst (λ (q : tree.Term). TermFits c.args.context.now c.loop-rest.self q) same c.loop-rest.invariant.walked.fits),
    )

pub number_term-loop-rest-preserved : goal.number_term-loop-rest-preserved
number_term-loop-rest-preserved t c =
    let at = span_view c.loop-rest.rest.now.span in
    let k = kind_view c.args.kind in
    let x = option_map name_view c.in-Let.name in
    let same : term_view c.loop-rest.rest.now ≡ tree.LetTerm x (term_view c.deref.result.now) (term_view c.deref-rest.result.now) at =
    ap (λ f. term_at f at) c.in-Let.is
    ∙ ap (λ q. tree.LetTerm x (term_view q) (term_view c.in-Let.body.value) at) (sym c.deref.ensures)
    ∙ ap (λ q. tree.LetTerm x (term_view c.deref.result.now) (term_view q) at) (sym c.deref-rest.ensures) in
    record {
      outer = c.loop-rest.invariant.outer;
      walked =
          walk_more c.args.context.now k (term_view c.args.term.now) x (term_view c.deref.result.now) (term_view c.deref-rest.result.now) at c.args.self.now c.loop-rest.self c.number_let.new.self
          (subst (λ (q : tree.Term). Walked c.args.context.now k (term_view c.args.term.now) q c.args.self.now c.loop-rest.self) same c.loop-rest.invariant.walked)
          c.in_ok-number_let.ensures;
      deep = search (rules, the_lemmas);
    }
