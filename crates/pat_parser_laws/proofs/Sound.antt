-- What is read was spelled so: each step keeps the account of how the tokens make up the state.
use Rattle.std.proofs.Common.{◌≡◌, ℕ, suc, ◌+◌, Bool, true, false, List, [], ◌∷◌, ◌++◌, Option, Some, None, Ok, Err, refl, sym, subst, arith}
use Rattle.std.specs.Prelude.{not, ℤ}
use Rattle.pat_lexer_spec.specs.Words as word
use Rattle.pat_lexer_spec.specs.Marks as mark
use Rattle.pat_lexer_spec.specs.Tokens.{Token, Name, Integer, Str, Word, Mark}
use Rattle.pat_semantics_spec.specs.Values.{Op, Add, Sub, Equal, Less}
use Rattle.pat_semantics_spec.specs.Programs.{Polarity, Sending, Receiving}
use Rattle.pat_parser_spec.specs.Trees as tree
use Rattle.pat_parser_spec.specs.Trees.{span, operators, pattern_operators}
use Rattle.pat_parser_spec.specs.Items.{At, Item, place_of, named, Limits, Room, constant, additive, comparison, polarity_of}
use Rattle.pat_parser_spec.specs.Grammar as grammar
use Rattle.pat_parser_spec.specs.Grammar.{Level, Atom, Product, Sum, Whole, Operand, combined, Expr, Pattern, Separated, one, more, Optional, none, some, Arg, Binder, binder, Part, Simple, Any, Term, value, print, new, spawn, free, send, call, branch, guard, block, simple, then, bind, Clauses, no_clause, fail_clause, free_clause, receive_clause, WrittenType, base, mailbox, short, Message, message, Param, param, Decls, no_decl, interface, function, Spells}
use Rattle.pat_parser_spec.specs.Machine as machine
use Rattle.pat_parser_spec.specs.Machine.{Pending, nothing, product_of, joined, sum_of, whole_of, Before, none_before, starred, times_pattern, plus_pattern, product_in, whole_in, Head, head_from, made, Guarding, ClauseHead, Interfacing, Defining, Naming, Frame, AtType, AtExpr, InMessage, InTyped, InArgs, Control, State, state, Fault, Next, within, Move, Goes, Opens, Starts, Refused, settle, type_step, want_type, polarized, after_type_name, after_polarity, first_payload, number_step, want_pattern, pattern_close, have_pattern, bodies, clause_step, next_clause, block_end, takes_next, then_next, then_in, done_step, end_close, end_comma, end_open, end_step, compare_step, add_step, times_step, have_step, want_step, opened_step, first_step, start_step, named_step, got_name, step, run, begin, finish, finish_at}
use Rattle.pat_parser_laws.proofs.CompletePattern.{constant_operators}
use Rattle.pat_parser_laws.proofs.Built.{Compared, no_compared, is_compared, Added, no_added, is_added, Multiplied, no_multiplied, is_multiplied, Pends, Is, Stars, no_stars, a_star, Times, no_times, is_times, Plus, no_plus, is_plus, PatternPends, PatternIs, Followed, not_yet, so_far, InterfaceBegun, interface_begun, interface_read, def_begun, def_head, HeadRead, to_call, to_send, ForType, ForPattern, ForExpr, ForSimple, ForAny, Under, in_message, in_param, in_result, in_typed, in_guarded, in_pattern_bracket, in_bracket, in_print, in_args, in_test, as_value, in_bound, as_simple, in_then, in_body, in_block, in_yes, in_no, in_spawn, in_free, in_receive, in_def, GuardRead, guard_read, receive_begun, receive_read, Wants, for_interface, for_message, for_function, for_param, for_let, for_new, for_free, for_guard, for_tag, for_receive, for_binder, for_from, Built, at_decl, at_want_name, at_got_name, at_first_payload, at_after_message, at_first_param, at_after_params, at_want_type, at_type_name, at_polarity, at_have_type, at_want_pattern, at_have_pattern, at_start, at_bound, at_named, at_print, at_new, at_spawn, at_free, at_yes, at_else, at_clause, at_free_word, at_first_binder, at_after_binders, at_first_arg, at_opened, at_want, at_have, at_done}

abbrev pub Leads : Next → (State → Type 0) → Type 0
Leads (Ok y) P = P y
Leads (Err e) P = Unit {0}

within_leads : (b : Bool) (y : State) (P : State → Type 0) → (b ≡ true → P y) → Leads (within b y) P
within_leads true y P h = h refl
within_leads false y P h = tt

-- where the move leads, the account goes on
abbrev Answers : Limits → At → List Item → List Item → Move → Type 0
Answers lim w all us m = Leads (settle lim w.free m) (λ y. Built lim y all us)

opens : {lim : Limits} {b : Bool} {y : State} {all us : List Item} → (b ≡ true → Built lim y all us) → Leads (within b y) (λ z. Built lim z all us)
opens {lim = lim} {b = b} {y = y} {all = all} {us = us} h = within_leads b y (λ z. Built lim z all us) h

pub follow : {A : Type 0} {One : List Item → A → List Item → Type 0} {us ts vs : List Item} {xs : List A} {a : A} → Followed One us xs ts → One ts a vs → Separated One us (xs ++ a ∷ []) vs
follow not_yet d = one d
follow (so_far s) d = more s d

count_on : (k a b j : ℕ) → j ≡ suc (k + a) + b → j ≡ k + suc (a + b)
count_on k a b j h = omega arith

count_star : (k a j : ℕ) → j ≡ suc k + a → j ≡ k + suc a
count_star k a j h = omega arith

count_same : (k : ℕ) → k ≡ k + 0
count_same k = omega arith

count_leaf : (k a : ℕ) → a ≡ 0 → k ≡ k + a
count_leaf k a h = omega arith

-- ---- types

type_sound : (lim : Limits) {b : Bool} {fs : List Frame} {o : ℕ} {all ts us : List Item} {a : tree.WrittenType} (c : Token) (w : At) → Under lim (ForType b) fs o 0 0 all ts → WrittenType lim o b ts a ((c, w) ∷ us) → Answers lim w all us (type_step fs o a c (place_of w))
type_sound lim (Mark mark.Comma) w (in_message i room fl) d = at_want_type (in_message i room (so_far (follow fl d)))
type_sound lim (Mark mark.Comma) w (in_param (def_begun ds room fl)) d = at_want_name (for_param (def_begun ds room (so_far (follow fl (param d)))))
type_sound lim (Mark mark.Comma) w (in_result h) d = tt
type_sound lim (Mark mark.RoundClose) w (in_message (interface_begun ds first fm) room fl) d = at_after_message (interface_read ds first (follow fm (message room (some (follow fl d)))))
type_sound lim (Mark mark.RoundClose) w (in_param (def_begun ds room fl)) d = at_after_params (def_head ds room (some (follow fl (param d))))
type_sound lim (Mark mark.RoundClose) w (in_result h) d = tt
type_sound lim (Mark mark.CurlyOpen) w (in_message i room fl) d = tt
type_sound lim (Mark mark.CurlyOpen) w (in_param h) d = tt
type_sound lim (Mark mark.CurlyOpen) w (in_result h) d = opens (λ room. at_start (in_def h d room))
type_sound lim _ w u d = tt

want_type_sound : (lim : Limits) {b : Bool} {fs : List Frame} {o : ℕ} {all us : List Item} (c : Token) (w : At) → Under lim (ForType b) fs o 0 0 all ((c, w) ∷ us) → Answers lim w all us (want_type fs o c (place_of w))
want_type_sound lim (Name x) w u = at_type_name u
want_type_sound lim (Word word.UnitWord) w u = at_have_type u (base refl)
want_type_sound lim (Word word.BoolWord) w u = at_have_type u (base refl)
want_type_sound lim (Word word.IntWord) w u = at_have_type u (base refl)
want_type_sound lim (Word word.StringWord) w u = at_have_type u (base refl)
want_type_sound lim _ w u = tt

no_pends : {lim : Limits} {o k : ℕ} {ts : List Item} → PatternPends lim o k none_before ts ts k
no_pends {k = k} {ts = ts} = record { k1 = k; k2 = k; bs = ts; ms = ts; added = no_plus; multiplied = no_times; stars = no_stars }

polarized_sound : (lim : Limits) {b : Bool} {fs : List Frame} {o : ℕ} {x : List ℕ} {n : At} {all us : List Item} (c : Token) (q : Polarity) (w : At) → polarity_of c ≡ Some q → Under lim (ForType b) fs o 0 0 all ((Name x, n) ∷ (c, w) ∷ us) → Answers lim w all us (polarized (machine.is_payload fs) fs o (named x n) q (place_of w))
polarized_sound lim c q w is (in_message i room fl) = at_want_pattern (in_typed (in_message i room fl) is) no_pends
polarized_sound lim c q w is (in_param h) = at_polarity (in_param h) is
polarized_sound lim c q w is (in_result h) = at_polarity (in_result h) is

type_name_sound : (lim : Limits) {b : Bool} {fs : List Frame} {o : ℕ} {x : List ℕ} {n : At} {all us : List Item} (c : Token) (w : At) → Under lim (ForType b) fs o 0 0 all ((Name x, n) ∷ (c, w) ∷ us) → Answers lim w all us (after_type_name fs o (named x n) c (place_of w))
type_name_sound lim (Mark mark.Bang) w u = polarized_sound lim (Mark mark.Bang) Sending w refl u
type_name_sound lim (Mark mark.Question) w u = polarized_sound lim (Mark mark.Question) Receiving w refl u
type_name_sound lim _ w u = tt

-- ---- patterns

factor_is : {lim : Limits} {o k0 k1 k n t : ℕ} {ts us vs : List Item} {x : tree.Pattern} → Stars lim o k0 n ts us k1 → PatternIs lim o k1 Atom us x t vs k → PatternIs lim o k0 Atom ts (starred n x) t vs k
factor_is no_stars i = i
factor_is {k = k} {x = x} (a_star {k1 = j} st room) i = factor_is st (record { derived = grammar.Pattern.star room i.derived; count = count_star j (pattern_operators x) k i.count })

times_is : {lim : Limits} {o k0 k1 k t : ℕ} {m : Option tree.Pattern} {ts us vs : List Item} {x : tree.Pattern} → Times lim o k0 m ts us k1 → PatternIs lim o k1 Atom us x t vs k → PatternIs lim o k0 Product ts (times_pattern m x) t vs k
times_is no_times i = record { derived = grammar.Pattern.factor i.derived; count = i.count }
times_is {k = k} {x = x} (is_times {k = j} {p = p} d room) i = record { derived = grammar.Pattern.dot d room i.derived; count = count_on j (pattern_operators p) (pattern_operators x) k i.count }

plus_is : {lim : Limits} {o k0 k1 k t : ℕ} {m : Option tree.Pattern} {ts us vs : List Item} {x : tree.Pattern} → Plus lim o k0 m ts us k1 → PatternIs lim o k1 Product us x t vs k → PatternIs lim o k0 Whole ts (plus_pattern m x) t vs k
plus_is no_plus i = record { derived = grammar.Pattern.product i.derived; count = i.count }
plus_is {k = k} {x = x} (is_plus {k = j} {p = p} d room) i = record { derived = grammar.Pattern.plus d room i.derived; count = count_on j (pattern_operators p) (pattern_operators x) k i.count }

times_new : {lim : Limits} {o k0 k t : ℕ} {ts us : List Item} {p : tree.Pattern} (w : At) → PatternIs lim o k0 Product ts p t ((Mark mark.Dot, w) ∷ us) k → Room lim w o k → Times lim o k0 (Some p) ts us (suc k)
times_new {lim = lim} {o = o} {k0 = k0} {ts = ts} {us = us} {p = p} w v room = subst (λ (j : ℕ). Times lim o k0 (Some p) ts us (suc j)) (sym v.count) (is_times v.derived (subst (λ (j : ℕ). Room lim w o j) v.count room))

plus_new : {lim : Limits} {o k0 k t : ℕ} {ts us : List Item} {p : tree.Pattern} (w : At) → PatternIs lim o k0 Whole ts p t ((Mark mark.Plus, w) ∷ us) k → Room lim w o k → Plus lim o k0 (Some p) ts us (suc k)
plus_new {lim = lim} {o = o} {k0 = k0} {ts = ts} {us = us} {p = p} w v room = subst (λ (j : ℕ). Plus lim o k0 (Some p) ts us (suc j)) (sym v.count) (is_plus v.derived (subst (λ (j : ℕ). Room lim w o j) v.count room))

number_sound : (lim : Limits) {fs : List Frame} {o k0 k s : ℕ} {p : Before} {all ts us : List Item} (n : ℤ) (w : At) (r : Option tree.Pattern) → constant n (place_of w) ≡ r → Under lim ForPattern fs o k0 s all ts → PatternPends lim o k0 p ts ((Integer n, w) ∷ us) k → Answers lim w all us (number_step fs o k s p r (place_of w))
number_sound lim {k = k} n w (Some q) is u d = at_have_pattern u d (record { derived = grammar.Pattern.number is; count = count_leaf k (pattern_operators q) (constant_operators n (place_of w) q is) })
number_sound lim n w None is u d = tt

want_pattern_sound : (lim : Limits) {fs : List Frame} {o k0 k s : ℕ} {p : Before} {all ts us : List Item} (c : Token) (w : At) → Under lim ForPattern fs o k0 s all ts → PatternPends lim o k0 p ts ((c, w) ∷ us) k → Answers lim w all us (want_pattern fs o k s p c (place_of w))
want_pattern_sound lim {k = k} (Name x) w u d = at_have_pattern u d (record { derived = grammar.Pattern.tag; count = count_same k })
want_pattern_sound lim (Integer n) w u d = number_sound lim n w (constant n (place_of w)) refl u d
want_pattern_sound lim {o = o} {k = k} (Mark mark.Star) w u d = opens (λ room. at_want_pattern u (record { k1 = d.k1; k2 = d.k2; bs = d.bs; ms = d.ms; added = d.added; multiplied = d.multiplied; stars = a_star d.stars room }))
want_pattern_sound lim {o = o} {k = k} (Mark mark.RoundOpen) w u d = opens (λ room. at_want_pattern (in_pattern_bracket u d room) no_pends)
want_pattern_sound lim _ w u d = tt

pattern_close_sound : (lim : Limits) {fs : List Frame} {o k0 k s t : ℕ} {q : tree.Pattern} {all ts us : List Item} (w : At) → Under lim ForPattern fs o k0 s all ts → PatternIs lim o k0 Whole ts q t ((Mark mark.RoundClose, w) ∷ us) k → Answers lim w all us (pattern_close fs k s q t (place_of w))
pattern_close_sound lim w (in_pattern_bracket u d room) i = at_have_pattern u d (record { derived = grammar.Pattern.bracket room i.derived; count = i.count })
pattern_close_sound lim w (in_typed u is) i = type_sound lim (Mark mark.RoundClose) w u (mailbox is i.derived)
pattern_close_sound lim w (in_guarded u) i = tt

pattern_comma_sound : (lim : Limits) {fs : List Frame} {o k0 k s t : ℕ} {q : tree.Pattern} {all ts us : List Item} (w : At) → Under lim ForPattern fs o k0 s all ts → PatternIs lim o k0 Whole ts q t ((Mark mark.Comma, w) ∷ us) k → Answers lim w all us (machine.pattern_comma fs o q t)
pattern_comma_sound lim w (in_pattern_bracket u d room) i = tt
pattern_comma_sound lim w (in_typed u is) i = type_sound lim (Mark mark.Comma) w u (mailbox is i.derived)
pattern_comma_sound lim w (in_guarded u) i = tt

pattern_open_sound : (lim : Limits) {fs : List Frame} {o k0 k s t : ℕ} {q : tree.Pattern} {all ts us : List Item} (w : At) → Under lim ForPattern fs o k0 s all ts → PatternIs lim o k0 Whole ts q t ((Mark mark.CurlyOpen, w) ∷ us) k → Answers lim w all us (machine.pattern_open fs o s q t)
pattern_open_sound lim w (in_pattern_bracket u d room) i = tt
pattern_open_sound lim w (in_typed u is) i = type_sound lim (Mark mark.CurlyOpen) w u (mailbox is i.derived)
pattern_open_sound lim {o = o} w (in_guarded u) i = opens (λ room. at_clause (guard_read u i.derived room no_clause))

have_pattern_sound : (lim : Limits) {fs : List Frame} {o k0 k1 k s t : ℕ} {p : Before} {q : tree.Pattern} {all ts us vs : List Item} (c : Token) (w : At) → Under lim ForPattern fs o k0 s all ts → PatternPends lim o k0 p ts us k1 → PatternIs lim o k1 Atom us q t ((c, w) ∷ vs) k → Answers lim w all vs (have_pattern fs o k s p q t c (place_of w))
have_pattern_sound lim {o = o} {k = k} {vs = vs} (Mark mark.Dot) w u d i = opens (λ room. at_want_pattern u (record { k1 = d.k1; k2 = suc k; bs = d.bs; ms = vs; added = d.added; multiplied = times_new w (times_is d.multiplied (factor_is d.stars i)) room; stars = no_stars }))
have_pattern_sound lim {o = o} {k = k} {vs = vs} (Mark mark.Plus) w u d i = opens (λ room. at_want_pattern u (record { k1 = suc k; k2 = suc k; bs = vs; ms = vs; added = plus_new w (plus_is d.added (times_is d.multiplied (factor_is d.stars i))) room; multiplied = no_times; stars = no_stars }))
have_pattern_sound lim (Mark mark.RoundClose) w u d i = pattern_close_sound lim w u (plus_is d.added (times_is d.multiplied (factor_is d.stars i)))
have_pattern_sound lim (Mark mark.Comma) w u d i = pattern_comma_sound lim w u (plus_is d.added (times_is d.multiplied (factor_is d.stars i)))
have_pattern_sound lim (Mark mark.CurlyOpen) w u d i = pattern_open_sound lim w u (plus_is d.added (times_is d.multiplied (factor_is d.stars i)))
have_pattern_sound lim _ w u d i = tt

polarity_sound : (lim : Limits) {fs : List Frame} {o : ℕ} {x : List ℕ} {q : Polarity} {n v : At} {d : Token} {all us : List Item} (c : Token) (w : At) → polarity_of d ≡ Some q → Under lim (ForType false) fs o 0 0 all ((Name x, n) ∷ (d, v) ∷ (c, w) ∷ us) → Answers lim w all us (after_polarity fs o (named x n) q v.to c (place_of w))
polarity_sound lim (Mark mark.Comma) w is u = type_sound lim (Mark mark.Comma) w u (short refl is)
polarity_sound lim (Mark mark.RoundClose) w is u = type_sound lim (Mark mark.RoundClose) w u (short refl is)
polarity_sound lim (Mark mark.CurlyOpen) w is u = type_sound lim (Mark mark.CurlyOpen) w u (short refl is)
polarity_sound lim c w is u = want_pattern_sound lim c w (in_typed u is) no_pends

-- ---- behind a simple term

clause_sound : (lim : Limits) {b : Bool} {g : Guarding} {fs : List Frame} {all us : List Item} (c : Token) (w : At) → GuardRead lim b g fs all ((c, w) ∷ us) → Answers lim w all us (clause_step (not b) fs g c (place_of w))
clause_sound lim (Word word.Fail) w (guard_read u p room cs) = at_clause (guard_read u p room (fail_clause cs))
clause_sound lim (Word word.Free) w (guard_read u p room cs) = at_free_word (guard_read u p room cs)
clause_sound lim (Word word.Receive) w (guard_read u p room cs) = at_want_name (for_receive (guard_read u p room cs))
clause_sound lim (Mark mark.CurlyClose) w (guard_read {b = true} u p room cs) = at_done u (guard p room cs)
clause_sound lim (Mark mark.CurlyClose) w (guard_read {b = false} u p room cs) = tt
clause_sound lim _ w g = tt

next_sound : (lim : Limits) {fs : List Frame} {o s f : ℕ} {all ts us : List Item} {m : tree.Term} (c : Token) (w : At) → Under lim ForAny fs o 0 s all ts → Term lim o s Any ts m f ((c, w) ∷ us) → Answers lim w all us (next_clause fs m c (place_of w))
next_sound lim c w (in_free (guard_read u p room cs)) d = clause_sound lim c w (guard_read u p room (free_clause cs d))
next_sound lim c w (in_receive (guard_read u p room cs) space ns) d = clause_sound lim c w (guard_read u p room (receive_clause cs space ns d))
next_sound lim c w _ d = tt

block_sound : (lim : Limits) {fs : List Frame} {o s f : ℕ} {all ts us : List Item} {m : tree.Term} (w : At) → Under lim ForAny fs o 0 s all ts → Term lim o s Any ts m f ((Mark mark.CurlyClose, w) ∷ us) → Answers lim w all us (block_end fs m (place_of w))
block_sound lim w (in_then u t room) d = tt
block_sound lim w (in_body u t room) d = tt
block_sound lim w (in_block u room) d = at_done u (block room d)
block_sound lim w (in_yes u e room) d = at_yes u e room d
block_sound lim w (in_no u e room t space) d = at_done u (branch e room t space d)
block_sound lim w (in_spawn u room) d = at_done u (spawn room d)
block_sound lim w (in_free (guard_read u p room cs)) d = at_done u (guard p room (free_clause cs d))
block_sound lim w (in_receive (guard_read u p room cs) space ns) d = at_done u (guard p room (receive_clause cs space ns d))
block_sound lim w (in_def (def_head ds room ps) t space) d = at_decl (function ds room ps t space d)

-- a term with the bodies that it ends
abbrev Rests : Limits → List Frame × tree.Term → List Item → List Item → Type 0
Rests lim q all us = (o : ℕ) × (s : ℕ) × (f : ℕ) × (ts : List Item) × Under lim ForAny q.0 o 0 s all ts × Term lim o s Any ts q.1 f us

bodies_sound : (lim : Limits) {fs : List Frame} {o s f : ℕ} {all ts us : List Item} {m : tree.Term} → Under lim ForAny fs o 0 s all ts → Term lim o s Any ts m f us → Rests lim (bodies fs m) all us
bodies_sound lim (in_then u t room) d = bodies_sound lim u (then t room d)
bodies_sound lim (in_body u t room) d = bodies_sound lim u (bind t room d)
bodies_sound lim {o = o} {s = s} {f = f} {ts = ts} (in_block u room) d = (o, s, f, ts, in_block u room, d)
bodies_sound lim {o = o} {s = s} {f = f} {ts = ts} (in_yes u e room) d = (o, s, f, ts, in_yes u e room, d)
bodies_sound lim {o = o} {s = s} {f = f} {ts = ts} (in_no u e room t space) d = (o, s, f, ts, in_no u e room t space, d)
bodies_sound lim {o = o} {s = s} {f = f} {ts = ts} (in_spawn u room) d = (o, s, f, ts, in_spawn u room, d)
bodies_sound lim {o = o} {s = s} {f = f} {ts = ts} (in_free g) d = (o, s, f, ts, in_free g, d)
bodies_sound lim {o = o} {s = s} {f = f} {ts = ts} (in_receive g space ns) d = (o, s, f, ts, in_receive g space ns, d)
bodies_sound lim {o = o} {s = s} {f = f} {ts = ts} (in_def h t room) d = (o, s, f, ts, in_def h t room, d)

takes : {lim : Limits} {fs : List Frame} {o s : ℕ} {all ts : List Item} → Under lim ForAny fs o 0 s all ts → takes_next fs ≡ true
takes (in_then u t room) = refl
takes (in_body u t room) = refl
takes (in_block u room) = refl
takes (in_yes u e room) = refl
takes (in_no u e room t space) = refl
takes (in_spawn u room) = refl
takes (in_free g) = refl
takes (in_receive g space ns) = refl
takes (in_def h t room) = refl

in_sound : (lim : Limits) {fs : List Frame} {o s : ℕ} {all ts : List Item} (us : List Item) (m : tree.Term) (w : At) → Under lim ForAny fs o 0 s all ts → Answers lim w all us (then_in fs o s m)
in_sound lim us m w (in_then u t room) = tt
in_sound lim us m w (in_body u t room) = tt
in_sound lim us m w (in_block u room) = tt
in_sound lim us m w (in_yes u e room) = tt
in_sound lim us m w (in_no u e room t space) = tt
in_sound lim us m w (in_spawn u room) = tt
in_sound lim us m w (in_free g) = tt
in_sound lim us m w (in_receive g space ns) = tt
in_sound lim us m w (in_def h t room) = tt

close_sound : (lim : Limits) {all us : List Item} (q : List Frame × tree.Term) (w : At) → Rests lim q all ((Mark mark.CurlyClose, w) ∷ us) → Answers lim w all us (block_end q.0 q.1 (place_of w))
close_sound lim q w r = block_sound lim w r.4 r.5

clauses_sound : (lim : Limits) {all us : List Item} (q : List Frame × tree.Term) (c : Token) (w : At) → Rests lim q all ((c, w) ∷ us) → Answers lim w all us (next_clause q.0 q.1 c (place_of w))
clauses_sound lim q c w r = next_sound lim c w r.4 r.5

done_sound : (lim : Limits) {fs : List Frame} {o s f : ℕ} {all ts us : List Item} {m : tree.Term} (c : Token) (w : At) → Under lim ForSimple fs o 0 s all ts → Term lim o s Simple ts m f ((c, w) ∷ us) → Answers lim w all us (done_step fs o s m f c (place_of w))
done_sound lim {fs = fs} {o = o} {s = s} {f = f} {all = all} {us = us} {m = m} (Mark mark.Semicolon) w (as_simple u) d = subst (λ (b : Bool). Answers lim w all us (then_next b fs o s m f)) (sym (takes u)) (opens (λ room. at_start (in_then u d room)))
done_sound lim (Mark mark.Semicolon) w (in_bound u) d = tt
done_sound lim {us = us} {m = m} (Word word.In) w (as_simple u) d = in_sound lim us m w u
done_sound lim {s = s} (Word word.In) w (in_bound u) d = opens (λ room. at_start (in_body u d room))
done_sound lim {fs = fs} {m = m} (Mark mark.CurlyClose) w (as_simple u) d = close_sound lim (bodies fs m) w (bodies_sound lim u (simple d))
done_sound lim (Mark mark.CurlyClose) w (in_bound u) d = tt
done_sound lim {fs = fs} {m = m} (Word word.Fail) w (as_simple u) d = clauses_sound lim (bodies fs m) (Word word.Fail) w (bodies_sound lim u (simple d))
done_sound lim (Word word.Fail) w (in_bound u) d = tt
done_sound lim {fs = fs} {m = m} (Word word.Free) w (as_simple u) d = clauses_sound lim (bodies fs m) (Word word.Free) w (bodies_sound lim u (simple d))
done_sound lim (Word word.Free) w (in_bound u) d = tt
done_sound lim {fs = fs} {m = m} (Word word.Receive) w (as_simple u) d = clauses_sound lim (bodies fs m) (Word word.Receive) w (bodies_sound lim u (simple d))
done_sound lim (Word word.Receive) w (in_bound u) d = tt
done_sound lim _ w u d = tt

-- ---- expressions

product_is : {lim : Limits} {o k0 k1 k t : ℕ} {m : Option Operand} {ts us vs : List Item} {x : Operand} → Multiplied lim o k0 m ts us k1 → Is lim o k1 Atom us x t vs k → Is lim o k0 Product ts (product_of m x t) t vs k
product_is no_multiplied i = record { derived = grammar.Expr.atom i.derived; count = i.count }
product_is {k = k} {x = x} (is_multiplied {k = j} {a = a} d room) i = record { derived = grammar.Expr.times d room i.derived; count = count_on j (operators a.0) (operators x.0) k i.count }

sum_is : {lim : Limits} {o k0 k1 k t : ℕ} {m : Option (Op × Operand)} {ts us vs : List Item} {x : Operand} → Added lim o k0 m ts us k1 → Is lim o k1 Product us x t vs k → Is lim o k0 Sum ts (joined m x t) t vs k
sum_is no_added i = record { derived = grammar.Expr.product i.derived; count = i.count }
sum_is {k = k} {x = x} (is_added {k = j} {a = a} is d room) i = record { derived = grammar.Expr.plus is d room i.derived; count = count_on j (operators a.0) (operators x.0) k i.count }

whole_is : {lim : Limits} {o k0 k1 k t : ℕ} {m : Option (Op × Operand)} {ts us vs : List Item} {x : Operand} → Compared lim o k0 m ts us k1 → Is lim o k1 Sum us x t vs k → Is lim o k0 Whole ts (joined m x t) t vs k
whole_is no_compared i = record { derived = grammar.Expr.sum i.derived; count = i.count }
whole_is {k = k} {x = x} (is_compared {k = j} {a = a} is d room) i = record { derived = grammar.Expr.compare is d room i.derived; count = count_on j (operators a.0) (operators x.0) k i.count }

pends_none : {lim : Limits} {o k : ℕ} {ts : List Item} → Pends lim o k nothing ts ts k
pends_none {k = k} {ts = ts} = record { k1 = k; k2 = k; bs = ts; ms = ts; compared = no_compared; added = no_added; multiplied = no_multiplied }

head_term : {lim : Limits} {o s : ℕ} {h : Head} {es : List tree.Expr} {v z : At} {ts us vs : List Item} → HeadRead h ts ((Mark mark.RoundOpen, v) ∷ us) → Room lim v o 0 → Optional (Arg lim (suc o)) us es ((Mark mark.RoundClose, z) ∷ vs) → Term lim o s Simple ts (made h es z.to) (head_from h) vs
head_term to_call room d = call room d
head_term to_send room d = send room d

any_close : (lim : Limits) {fs : List Frame} {o s : ℕ} {all ts : List Item} (us : List Item) (k j : ℕ) (a : Operand) (w : At) → Under lim ForAny fs o 0 s all ts → Answers lim w all us (end_close fs k j a (place_of w))
any_close lim us k j a w (in_then u t room) = tt
any_close lim us k j a w _ = tt

any_comma : (lim : Limits) {fs : List Frame} {o s : ℕ} {all ts : List Item} (us : List Item) (k j : ℕ) (a : Operand) (w : At) → Under lim ForAny fs o 0 s all ts → Answers lim w all us (end_comma fs k j a)
any_comma lim us k j a w (in_then u t room) = tt
any_comma lim us k j a w _ = tt

any_open : (lim : Limits) {fs : List Frame} {o s : ℕ} {all ts : List Item} (us : List Item) (k j : ℕ) (a : Operand) (w : At) → Under lim ForAny fs o 0 s all ts → Answers lim w all us (end_open fs k j a)
any_open lim us k j a w (in_then u t room) = tt
any_open lim us k j a w _ = tt

-- no simple term ends directly in a bracket of an expression, in a print, in arguments or in a test
abbrev holds : List Frame → Bool
holds (machine.AtExpr (machine.InBracket p f o) ∷ fs) = true
holds (machine.AtExpr (machine.InPrint f o) ∷ fs) = true
holds (machine.AtExpr (machine.InArgs h es o) ∷ fs) = true
holds (machine.AtExpr (machine.InTest f) ∷ fs) = true
holds _ = false

held : (fs : List Frame) (o s : ℕ) (m : tree.Term) (f : ℕ) (c : Token) (w : tree.Span) → holds fs ≡ true → done_step fs o s m f c w ≡ Refused
held (machine.AtExpr (machine.InBracket p g r) ∷ fs) o s m f (Mark mark.Semicolon) w h = refl
held (machine.AtExpr (machine.InBracket p g r) ∷ fs) o s m f (Word word.In) w h = refl
held (machine.AtExpr (machine.InBracket p g r) ∷ fs) o s m f _ w h = refl
held (machine.AtExpr (machine.InPrint g r) ∷ fs) o s m f (Mark mark.Semicolon) w h = refl
held (machine.AtExpr (machine.InPrint g r) ∷ fs) o s m f (Word word.In) w h = refl
held (machine.AtExpr (machine.InPrint g r) ∷ fs) o s m f _ w h = refl
held (machine.AtExpr (machine.InArgs g es r) ∷ fs) o s m f (Mark mark.Semicolon) w h = refl
held (machine.AtExpr (machine.InArgs g es r) ∷ fs) o s m f (Word word.In) w h = refl
held (machine.AtExpr (machine.InArgs g es r) ∷ fs) o s m f _ w h = refl
held (machine.AtExpr (machine.InTest g) ∷ fs) o s m f (Mark mark.Semicolon) w h = refl
held (machine.AtExpr (machine.InTest g) ∷ fs) o s m f (Word word.In) w h = refl
held (machine.AtExpr (machine.InTest g) ∷ fs) o s m f _ w h = refl
held _ o s m f c w h = absurd cc

held_sound : (lim : Limits) (all us : List Item) (fs : List Frame) (o s : ℕ) (m : tree.Term) (f : ℕ) (c : Token) (w : At) → holds fs ≡ true → Answers lim w all us (done_step fs o s m f c (place_of w))
held_sound lim all us fs o s m f c w h = subst (λ (q : Move). Answers lim w all us q) (sym (held fs o s m f c (place_of w) h)) tt

end_sound : (lim : Limits) {fs : List Frame} {o k0 k s t : ℕ} {a : Operand} {all ts us : List Item} (c : Token) (w : At) → Under lim ForExpr fs o k0 s all ts → Is lim o k0 Whole ts a t ((c, w) ∷ us) k → Answers lim w all us (end_step fs o k s a t c (place_of w))
end_sound lim (Mark mark.RoundClose) w (in_bracket u d room) i = at_have u d (record { derived = grammar.Expr.bracket room i.derived; count = i.count })
end_sound lim (Mark mark.RoundClose) w (in_print u room) i = at_done u (print room i.derived)
end_sound lim {t = t} {a = a} (Mark mark.RoundClose) w (in_args u h room fl) i = at_done u (head_term h room (some (follow fl (a.1, t, i.derived))))
end_sound lim (Mark mark.RoundClose) w (in_test u) i = tt
end_sound lim (Mark mark.RoundClose) w (as_value (in_bound u)) i = tt
end_sound lim {k = k} {s = s} {a = a} {us = us} (Mark mark.RoundClose) w (as_value (as_simple u)) i = any_close lim us k s a w u
end_sound lim (Mark mark.Comma) w (in_bracket u d room) i = tt
end_sound lim (Mark mark.Comma) w (in_print u room) i = tt
end_sound lim {t = t} {a = a} (Mark mark.Comma) w (in_args u h room fl) i = at_want (in_args u h room (so_far (follow fl (a.1, t, i.derived)))) pends_none
end_sound lim (Mark mark.Comma) w (in_test u) i = tt
end_sound lim (Mark mark.Comma) w (as_value (in_bound u)) i = tt
end_sound lim {o = o} {s = s} {a = a} {us = us} (Mark mark.Comma) w (as_value (as_simple u)) i = any_comma lim us o s a w u
end_sound lim (Mark mark.CurlyOpen) w (in_bracket u d room) i = tt
end_sound lim (Mark mark.CurlyOpen) w (in_print u room) i = tt
end_sound lim (Mark mark.CurlyOpen) w (in_args u h room fl) i = tt
end_sound lim {o = o} (Mark mark.CurlyOpen) w (in_test u) i = opens (λ room. at_start (in_yes u i.derived room))
end_sound lim (Mark mark.CurlyOpen) w (as_value (in_bound u)) i = tt
end_sound lim {o = o} {s = s} {a = a} {us = us} (Mark mark.CurlyOpen) w (as_value (as_simple u)) i = any_open lim us o s a w u
end_sound lim c w (as_value u) i = done_sound lim c w u (value i.derived)
end_sound lim {s = s} {t = t} {a = a} {all = all} {us = us} c w (in_bracket {fs = fs} {o = o} {p = p} {w = v} u d room) i = held_sound lim all us (machine.AtExpr (machine.InBracket p v.from o) ∷ fs) (suc o) s (tree.ValueTerm a.0 (span a.1 t)) a.1 c w refl
end_sound lim {s = s} {t = t} {a = a} {all = all} {us = us} c w (in_print {fs = fs} {o = o} {w = v} u room) i = held_sound lim all us (machine.AtExpr (machine.InPrint v.from o) ∷ fs) (suc o) s (tree.ValueTerm a.0 (span a.1 t)) a.1 c w refl
end_sound lim {s = s} {t = t} {a = a} {all = all} {us = us} c w (in_args {fs = fs} {o = o} {h = h} {es = es} u d room fl) i = held_sound lim all us (AtExpr (InArgs h es o) ∷ fs) (suc o) s (tree.ValueTerm a.0 (span a.1 t)) a.1 c w refl
end_sound lim {s = s} {t = t} {a = a} {all = all} {us = us} c w (in_test {fs = fs} {o = o} {w = v} u) i = held_sound lim all us (machine.AtExpr (machine.InTest v.from) ∷ fs) o s (tree.ValueTerm a.0 (span a.1 t)) a.1 c w refl

multiplied_new : {lim : Limits} {o k0 k t : ℕ} {ts us : List Item} {a : Operand} (w : At) → Is lim o k0 Product ts a t ((Mark mark.Star, w) ∷ us) k → Room lim w o k → Multiplied lim o k0 (Some a) ts us (suc k)
multiplied_new {lim = lim} {o = o} {k0 = k0} {ts = ts} {us = us} {a = a} w v room = subst (λ (j : ℕ). Multiplied lim o k0 (Some a) ts us (suc j)) (sym v.count) (is_multiplied v.derived (subst (λ (j : ℕ). Room lim w o j) v.count room))

added_new : {lim : Limits} {o k0 k t : ℕ} {c : Token} {ts us : List Item} {a : Operand} (q : Op) (w : At) → additive c ≡ Some q → Is lim o k0 Sum ts a t ((c, w) ∷ us) k → Room lim w o k → Added lim o k0 (Some (q, a)) ts us (suc k)
added_new {lim = lim} {o = o} {k0 = k0} {ts = ts} {us = us} {a = a} q w is v room = subst (λ (j : ℕ). Added lim o k0 (Some (q, a)) ts us (suc j)) (sym v.count) (is_added is v.derived (subst (λ (j : ℕ). Room lim w o j) v.count room))

compared_new : {lim : Limits} {o k0 k t : ℕ} {c : Token} {ts us : List Item} {a : Operand} (q : Op) (w : At) → comparison c ≡ Some q → Is lim o k0 Sum ts a t ((c, w) ∷ us) k → Room lim w o k → Compared lim o k0 (Some (q, a)) ts us (suc k)
compared_new {lim = lim} {o = o} {k0 = k0} {ts = ts} {us = us} {a = a} q w is v room = subst (λ (j : ℕ). Compared lim o k0 (Some (q, a)) ts us (suc j)) (sym v.count) (is_compared is v.derived (subst (λ (j : ℕ). Room lim w o j) v.count room))

add_sound : (lim : Limits) {fs : List Frame} {o k0 k1 k s t : ℕ} {p : Pending} {a : Operand} {all ts us vs : List Item} (c : Token) (q : Op) (w : At) → additive c ≡ Some q → Under lim ForExpr fs o k0 s all ts → Pends lim o k0 p ts us k1 → Is lim o k1 Atom us a t ((c, w) ∷ vs) k → Answers lim w all vs (add_step fs o k s p a t q)
add_sound lim {o = o} {k = k} {vs = vs} c q w is u d i = opens (λ room. at_want u (record { k1 = d.k1; k2 = suc k; bs = d.bs; ms = vs; compared = d.compared; added = added_new q w is (sum_is d.added (product_is d.multiplied i)) room; multiplied = no_multiplied }))

-- a comparison doesn't repeat: where none stands before, the sum begins the whole expression
first_compared : {lim : Limits} {o k0 k1 k t : ℕ} {c : Token} {m : Option (Op × Operand)} {ts us vs : List Item} {a : Operand} (q : Op) (w : At) → None ≡ m → comparison c ≡ Some q → Compared lim o k0 m ts us k1 → Is lim o k1 Sum us a t ((c, w) ∷ vs) k → Room lim w o k → Compared lim o k0 (Some (q, a)) ts vs (suc k)
first_compared q w e is no_compared v room = compared_new q w is v room
first_compared q w e is (is_compared _ _ _) v room = absurd cc

compare_sound : (lim : Limits) {fs : List Frame} {o k0 k1 k s t : ℕ} {p : Pending} {a : Operand} {all ts us vs : List Item} (c : Token) (q : Op) (w : At) (m : Option (Op × Operand)) → m ≡ p.compared → comparison c ≡ Some q → Under lim ForExpr fs o k0 s all ts → Pends lim o k0 p ts us k1 → Is lim o k1 Atom us a t ((c, w) ∷ vs) k → Answers lim w all vs (compare_step fs o k s p a t q m)
compare_sound lim {o = o} {k = k} {vs = vs} c q w None e is u d i = opens (λ room. at_want u (record { k1 = suc k; k2 = suc k; bs = vs; ms = vs; compared = first_compared q w e is d.compared (sum_is d.added (product_is d.multiplied i)) room; added = no_added; multiplied = no_multiplied }))
compare_sound lim c q w (Some x) e is u d i = tt

have_sound : (lim : Limits) {fs : List Frame} {o k0 k1 k s t : ℕ} {p : Pending} {a : Operand} {all ts us vs : List Item} (c : Token) (w : At) → Under lim ForExpr fs o k0 s all ts → Pends lim o k0 p ts us k1 → Is lim o k1 Atom us a t ((c, w) ∷ vs) k → Answers lim w all vs (have_step fs o k s p a t c (place_of w))
have_sound lim {o = o} {k = k} {vs = vs} (Mark mark.Star) w u d i = opens (λ room. at_want u (record { k1 = d.k1; k2 = d.k2; bs = d.bs; ms = d.ms; compared = d.compared; added = d.added; multiplied = multiplied_new w (product_is d.multiplied i) room }))
have_sound lim (Mark mark.Plus) w u d i = add_sound lim (Mark mark.Plus) Add w refl u d i
have_sound lim (Mark mark.Minus) w u d i = add_sound lim (Mark mark.Minus) Sub w refl u d i
have_sound lim {p = p} (Mark mark.DoubleEquals) w u d i = compare_sound lim (Mark mark.DoubleEquals) Equal w p.compared refl refl u d i
have_sound lim {p = p} (Mark mark.Less) w u d i = compare_sound lim (Mark mark.Less) Less w p.compared refl refl u d i
have_sound lim c w u d i = end_sound lim c w u (whole_is d.compared (sum_is d.added (product_is d.multiplied i)))

want_sound : (lim : Limits) {fs : List Frame} {o k0 k s : ℕ} {p : Pending} {all ts us : List Item} (c : Token) (w : At) → Under lim ForExpr fs o k0 s all ts → Pends lim o k0 p ts ((c, w) ∷ us) k → Answers lim w all us (want_step fs o k s p c (place_of w))
want_sound lim {k = k} (Name x) w u d = at_have u d (record { derived = grammar.Expr.leaf refl; count = count_same k })
want_sound lim {k = k} (Integer n) w u d = at_have u d (record { derived = grammar.Expr.leaf refl; count = count_same k })
want_sound lim {k = k} (Str x) w u d = at_have u d (record { derived = grammar.Expr.leaf refl; count = count_same k })
want_sound lim {k = k} (Word word.TrueWord) w u d = at_have u d (record { derived = grammar.Expr.leaf refl; count = count_same k })
want_sound lim {k = k} (Word word.FalseWord) w u d = at_have u d (record { derived = grammar.Expr.leaf refl; count = count_same k })
want_sound lim {o = o} {k = k} (Mark mark.RoundOpen) w u d = opens (λ room. at_opened u d room)
want_sound lim _ w u d = tt

fresh_sound : (lim : Limits) {fs : List Frame} {o k s : ℕ} {all us : List Item} (c : Token) (w : At) → Under lim ForExpr fs o k s all ((c, w) ∷ us) → Answers lim w all us (want_step fs o k s nothing c (place_of w))
fresh_sound lim c w u = want_sound lim c w u pends_none

opened_sound : (lim : Limits) {fs : List Frame} {o k0 k s : ℕ} {p : Pending} {v : At} {all ts us : List Item} (c : Token) (w : At) → Under lim ForExpr fs o k0 s all ts → Pends lim o k0 p ts ((Mark mark.RoundOpen, v) ∷ (c, w) ∷ us) k → Room lim v o k → Answers lim w all us (opened_step (machine.AtExpr (machine.InBracket p v.from o) ∷ fs) (suc o) k s c (place_of w))
opened_sound lim {k = k} (Mark mark.RoundClose) w u d room = at_have u d (record { derived = grammar.Expr.unit room; count = count_same k })
opened_sound lim c w u d room = fresh_sound lim c w (in_bracket u d room)

first_sound : (lim : Limits) {fs : List Frame} {o s : ℕ} {h : Head} {v : At} {all ts us : List Item} (c : Token) (w : At) → Under lim ForSimple fs o 0 s all ts → HeadRead h ts ((Mark mark.RoundOpen, v) ∷ (c, w) ∷ us) → Room lim v o 0 → Answers lim w all us (first_step (AtExpr (InArgs h [] o) ∷ fs) (suc o) 0 s c (place_of w))
first_sound lim (Mark mark.RoundClose) w u h room = at_done u (head_term h room none)
first_sound lim c w u h room = fresh_sound lim c w (in_args u h room not_yet)

-- ---- where a term begins

start_sound : (lim : Limits) {fs : List Frame} {o s : ℕ} {all us : List Item} (b : Bool) (c : Token) (w : At) → Under lim ForSimple fs o 0 s all ((c, w) ∷ us) → (b ≡ true → Under lim ForAny fs o 0 s all ((c, w) ∷ us)) → Answers lim w all us (start_step fs o 0 s b c (place_of w))
start_sound lim b (Name x) w u f = at_named u
start_sound lim true (Word word.Let) w u f = at_want_name (for_let (f refl))
start_sound lim false (Word word.Let) w u f = tt
start_sound lim b (Word word.Print) w u f = at_print u
start_sound lim b (Word word.New) w u f = at_new u
start_sound lim b (Word word.Spawn) w u f = at_spawn u
start_sound lim b (Word word.Free) w u f = at_free u
start_sound lim b (Word word.If) w u f = at_want (in_test u) pends_none
start_sound lim b (Word word.Guard) w u f = at_want_name (for_guard u)
start_sound lim {o = o} b (Mark mark.CurlyOpen) w u f = opens (λ room. at_start (in_block u room))
start_sound lim b c w u f = fresh_sound lim c w (as_value u)

named_sound : (lim : Limits) {fs : List Frame} {o s : ℕ} {x : List ℕ} {n : At} {all us : List Item} (c : Token) (w : At) → Under lim ForSimple fs o 0 s all ((Name x, n) ∷ (c, w) ∷ us) → Answers lim w all us (named_step fs o 0 s (named x n) c (place_of w))
named_sound lim (Mark mark.Bang) w u = at_want_name (for_tag u)
named_sound lim {o = o} (Mark mark.RoundOpen) w u = opens (λ room. at_first_arg u to_call room)
named_sound lim c w u = have_sound lim c w (as_value u) pends_none (record { derived = grammar.Expr.leaf refl; count = count_same 0 })

-- ---- names

got_sound : (lim : Limits) {what : Naming} {fs : List Frame} {o s : ℕ} {x : List ℕ} {n : At} {all us : List Item} (c : Token) (w : At) → Wants lim what fs o s all ((Name x, n) ∷ (c, w) ∷ us) → Answers lim w all us (got_name fs o s what (named x n) c (place_of w))
got_sound lim (Mark mark.CurlyOpen) w (for_interface d) = opens (λ room. at_want_name (for_message (interface_begun d room not_yet)))
got_sound lim _ w (for_interface d) = tt
got_sound lim (Mark mark.RoundOpen) w (for_message i) = opens (λ room. at_first_payload i room)
got_sound lim _ w (for_message i) = tt
got_sound lim (Mark mark.RoundOpen) w (for_function d) = opens (λ room. at_first_param d room)
got_sound lim _ w (for_function d) = tt
got_sound lim (Mark mark.Colon) w (for_param d) = at_want_type (in_param d)
got_sound lim _ w (for_param d) = tt
got_sound lim (Mark mark.Equals) w (for_let u) = at_bound (in_bound u)
got_sound lim _ w (for_let u) = tt
got_sound lim (Mark mark.SquareClose) w (for_new u room) = at_done u (new room)
got_sound lim _ w (for_new u room) = tt
got_sound lim (Mark mark.RoundClose) w (for_free u room) = at_done u (free room)
got_sound lim _ w (for_free u room) = tt
got_sound lim (Mark mark.Colon) w (for_guard u) = at_want_pattern (in_guarded u) no_pends
got_sound lim _ w (for_guard u) = tt
got_sound lim {o = o} (Mark mark.RoundOpen) w (for_tag u) = opens (λ room. at_first_arg u to_send room)
got_sound lim _ w (for_tag u) = tt
got_sound lim (Mark mark.RoundOpen) w (for_receive {g = g} d) = opens (λ room. at_first_binder d room)
got_sound lim _ w (for_receive d) = tt
got_sound lim (Mark mark.Comma) w (for_binder (receive_begun d room fl)) = at_want_name (for_binder (receive_begun d room (so_far (follow fl binder))))
got_sound lim (Mark mark.RoundClose) w (for_binder (receive_begun d room fl)) = at_after_binders (receive_read d room (some (follow fl binder)))
got_sound lim _ w (for_binder d) = tt
got_sound lim (Mark mark.Arrow) w (for_from (receive_read d room ns)) = at_start (in_receive d room ns)
got_sound lim _ w (for_from d) = tt

-- ---- each token

payload_sound : (lim : Limits) {i : Interfacing} {x : List ℕ} {n v : At} {all us : List Item} (c : Token) (w : At) → InterfaceBegun lim i all ((Name x, n) ∷ (Mark mark.RoundOpen, v) ∷ (c, w) ∷ us) → Room lim v 1 0 → Answers lim w all us (first_payload (AtType (InMessage i (named x n) []) ∷ []) 2 c (place_of w))
payload_sound lim (Mark mark.RoundClose) w (interface_begun d first fl) room = at_after_message (interface_read d first (follow fl (message room none)))
payload_sound lim c w i room = want_type_sound lim c w (in_message i room not_yet)

pub step_sound : (lim : Limits) (x : State) {all us : List Item} (c : Token) (w : At) → Built lim x all ((c, w) ∷ us) → Leads (step lim x (c, w)) (λ y. Built lim y all us)
step_sound lim x (Word word.Interface) w (at_decl d) = at_want_name (for_interface d)
step_sound lim x (Word word.Def) w (at_decl d) = at_want_name (for_function d)
step_sound lim x _ w (at_decl d) = tt
step_sound lim x (Name y) w (at_want_name d) = at_got_name d
step_sound lim x _ w (at_want_name d) = tt
step_sound lim x c w (at_got_name d) = got_sound lim c w d
step_sound lim x c w (at_first_payload i room) = payload_sound lim c w i room
step_sound lim x (Mark mark.Comma) w (at_after_message (interface_read d room ms)) = at_want_name (for_message (interface_begun d room (so_far ms)))
step_sound lim x (Mark mark.CurlyClose) w (at_after_message (interface_read d room ms)) = at_decl (interface d room ms)
step_sound lim x _ w (at_after_message d) = tt
step_sound lim x (Name y) w (at_first_param d room) = at_got_name (for_param (def_begun d room not_yet))
step_sound lim x (Mark mark.RoundClose) w (at_first_param d room) = at_after_params (def_head d room none)
step_sound lim x _ w (at_first_param d room) = tt
step_sound lim x (Mark mark.Colon) w (at_after_params d) = at_want_type (in_result d)
step_sound lim x _ w (at_after_params d) = tt
step_sound lim x c w (at_want_type u) = want_type_sound lim c w u
step_sound lim x c w (at_type_name u) = type_name_sound lim c w u
step_sound lim x c w (at_polarity u is) = polarity_sound lim c w is u
step_sound lim x c w (at_have_type u d) = type_sound lim c w u d
step_sound lim x c w (at_want_pattern u d) = want_pattern_sound lim c w u d
step_sound lim x c w (at_have_pattern u d i) = have_pattern_sound lim c w u d i
step_sound lim x c w (at_start u) = start_sound lim true c w (as_simple u) (λ h. u)
step_sound lim x c w (at_bound u) = start_sound lim false c w u (λ h. absurd cc)
step_sound lim x c w (at_named u) = named_sound lim c w u
step_sound lim x (Mark mark.RoundOpen) w (at_print {o = o} u) = opens (λ room. at_want (in_print u room) pends_none)
step_sound lim x _ w (at_print u) = tt
step_sound lim x (Mark mark.SquareOpen) w (at_new {o = o} u) = opens (λ room. at_want_name (for_new u room))
step_sound lim x _ w (at_new u) = tt
step_sound lim x (Mark mark.CurlyOpen) w (at_spawn {o = o} u) = opens (λ room. at_start (in_spawn u room))
step_sound lim x _ w (at_spawn u) = tt
step_sound lim x (Mark mark.RoundOpen) w (at_free {o = o} u) = opens (λ room. at_want_name (for_free u room))
step_sound lim x _ w (at_free u) = tt
step_sound lim x (Word word.Else) w (at_yes u e room t) = at_else u e room t
step_sound lim x _ w (at_yes u e room t) = tt
step_sound lim x (Mark mark.CurlyOpen) w (at_else {o = o} u e room t) = opens (λ space. at_start (in_no u e room t space))
step_sound lim x _ w (at_else u e room t) = tt
step_sound lim x c w (at_clause d) = clause_sound lim c w d
step_sound lim x (Mark mark.Arrow) w (at_free_word d) = at_start (in_free d)
step_sound lim x _ w (at_free_word d) = tt
step_sound lim x (Name y) w (at_first_binder d room) = at_got_name (for_binder (receive_begun d room not_yet))
step_sound lim x (Mark mark.RoundClose) w (at_first_binder d room) = at_after_binders (receive_read d room none)
step_sound lim x _ w (at_first_binder d room) = tt
step_sound lim x (Word word.From) w (at_after_binders d) = at_want_name (for_from d)
step_sound lim x _ w (at_after_binders d) = tt
step_sound lim x c w (at_first_arg u h room) = first_sound lim c w u h room
step_sound lim x c w (at_opened u d room) = opened_sound lim c w u d room
step_sound lim x c w (at_want u d) = want_sound lim c w u d
step_sound lim x c w (at_have u d i) = have_sound lim c w u d i
step_sound lim x c w (at_done u d) = done_sound lim c w u d

leads_on : (lim : Limits) (r : Next) (us : List Item) (P Q : State → Type 0) → Leads r P → ((y : State) → P y → Leads (run lim y us) Q) → Leads (machine.bind r (λ y. run lim y us)) Q
leads_on lim (Ok y) us P Q h f = f y h
leads_on lim (Err e) us P Q h f = tt

pub run_sound : (lim : Limits) (x : State) (all ts us : List Item) → Built lim x all (ts ++ us) → Leads (run lim x ts) (λ y. Built lim y all us)
run_sound lim x all [] us b = b
run_sound lim x all (t ∷ ts) us b =
    leads_on lim (step lim x t) ts (λ y. Built lim y all (ts ++ us)) (λ y. Built lim y all us) (step_sound lim x t.0 t.1 b) (λ y h. run_sound lim y all ts us h)

pub begun : (lim : Limits) (all : List Item) → Built lim begin all all
begun lim all = at_decl no_decl

abbrev pub Gets : Option tree.Tree → (tree.Tree → Type 0) → Type 0
Gets (Some m) P = P m
Gets None P = Unit {0}

-- where the tokens may end, they spell the tree
pub finish_sound : (lim : Limits) (x : State) (all : List Item) → Built lim x all [] → Gets (finish x) (λ r. Spells lim all r)
finish_sound lim x all (at_decl {b = true} d) = d
finish_sound lim x all (at_decl {b = false} d) = tt
finish_sound lim x all _ = tt
