-- Every state that is reached can be completed by tokens that are free of the limits.
use Rattle.std.proofs.Common.{◌≡◌, ℕ, suc, Bool, true, false, List, [], ◌∷◌, ◌++◌, map, Some, None, Ok, refl, ap, ◌∙◌}
use Rattle.std.specs.Prelude.{not}
use Rattle.pat_lexer_spec.specs.Words as word
use Rattle.pat_lexer_spec.specs.Marks as mark
use Rattle.pat_lexer_spec.specs.Tokens.{Token, Spanned, Name, Word, Mark}
use Rattle.pat_parser_spec.specs.Trees as tree
use Rattle.pat_parser_spec.specs.Trees.{span, term_at}
use Rattle.pat_parser_spec.specs.Items.{Item, place_of, named, Limits, free_item}
use Rattle.pat_parser_spec.specs.Grammar.{Operand}
use Rattle.pat_parser_spec.specs.Machine.{Pending, nothing, whole_of, Before, whole_in, head_from, made, guard_term, free_of, receive_of, ClauseHead, Naming, InterfaceName, MessageName, FunctionName, ParamName, LetName, NewName, FreeName, GuardName, TagName, ReceiveName, BinderName, FromName, Frame, AtType, AtPattern, AtExpr, AtLet, AtBlock, AtGuard, InMessage, InParam, InResult, InTyped, InGuarded, InPatternBracket, InBracket, InPrint, InArgs, InTest, InBound, InBody, InBlock, InYes, InNo, InSpawn, InFree, InReceive, InDef, Control, AtDecl, WantName, GotName, FirstPayload, AfterMessage, FirstParam, AfterParams, WantType, AfterTypeName, AfterPolarity, HaveType, WantPattern, HavePattern, Start, Named, AfterPrint, AfterNew, AfterSpawn, AfterFree, AfterYes, AfterElse, AtClause, AfterFreeWord, FirstBinder, AfterBinders, FirstArg, Opened, Want, Have, Done, State, state, settle, bodies, block_end, with_message, with_param, with_name, typed_by, step, run, finish}
use Rattle.pat_parser_laws.proofs.Runs.{run_step}
use Rattle.pat_parser_laws.proofs.CompleteTerm.{Stands, is_value, is_done, is_named, is_had, stands_step, guarding}
use Rattle.pat_parser_laws.proofs.CompleteDecl.{BehindType, pattern_goes, base_goes, short_goes}
use Rattle.pat_parser_laws.proofs.Built.{Kind, ForType, ForPattern, ForExpr, ForSimple, ForAny, Under, in_message, in_param, in_result, in_typed, in_guarded, in_pattern_bracket, in_bracket, in_print, in_args, in_test, as_value, in_bound, as_simple, in_then, in_body, in_block, in_yes, in_no, in_spawn, in_free, in_receive, in_def, guard_read, receive_begun, receive_read, Wants, for_interface, for_message, for_function, for_param, for_let, for_new, for_free, for_guard, for_tag, for_receive, for_binder, for_from, Built, at_decl, at_want_name, at_got_name, at_first_payload, at_after_message, at_first_param, at_after_params, at_want_type, at_type_name, at_polarity, at_have_type, at_want_pattern, at_have_pattern, at_start, at_bound, at_named, at_print, at_new, at_spawn, at_free, at_yes, at_else, at_clause, at_free_word, at_first_binder, at_after_binders, at_first_arg, at_opened, at_want, at_have, at_done}

-- ---- what is owed

abbrev pub owing : Token → Spanned
owing c = record { token = c; from = 0; to = 0 }

abbrev any_name : List ℕ
any_name = 120 ∷ []

abbrev a_name : Spanned
a_name = owing (Name any_name)

abbrev a_value : Spanned
a_value = owing (Word word.TrueWord)

abbrev marked : mark.Mark → Spanned
marked m = owing (Mark m)

abbrev worded : word.Reserved → Spanned
worded w = owing (Word w)

-- a block of one value, before other tokens
abbrev a_block : List Spanned → List Spanned
a_block ts = marked mark.CurlyOpen ∷ a_value ∷ marked mark.CurlyClose ∷ ts

abbrev a_result : List Spanned
a_result = marked mark.Colon ∷ worded word.UnitWord ∷ a_block []

abbrev a_clause : List Spanned → List Spanned
a_clause ts = marked mark.Arrow ∷ a_value ∷ marked mark.CurlyClose ∷ ts

abbrev a_sender : List Spanned → List Spanned
a_sender ts = worded word.From ∷ a_name ∷ a_clause ts

abbrev owed_by : List Frame → List Spanned
owed_by [] = []
owed_by (AtType (InMessage i x ps) ∷ fs) = marked mark.RoundClose ∷ marked mark.CurlyClose ∷ []
owed_by (AtType (InParam d x) ∷ fs) = marked mark.RoundClose ∷ a_result
owed_by (AtType (InResult d) ∷ fs) = a_block []
owed_by (AtPattern (InTyped x q) ∷ fs) = owed_by fs
owed_by (AtPattern (InGuarded x f) ∷ fs) = marked mark.CurlyOpen ∷ worded word.Fail ∷ marked mark.CurlyClose ∷ owed_by fs
owed_by (AtPattern (InPatternBracket p o) ∷ fs) = marked mark.RoundClose ∷ owed_by fs
owed_by (AtExpr (InBracket p f o) ∷ fs) = marked mark.RoundClose ∷ owed_by fs
owed_by (AtExpr (InPrint f o) ∷ fs) = marked mark.RoundClose ∷ owed_by fs
owed_by (AtExpr (InArgs h es o) ∷ fs) = marked mark.RoundClose ∷ owed_by fs
owed_by (AtExpr (InTest f) ∷ fs) = a_block (worded word.Else ∷ a_block (owed_by fs))
owed_by (AtLet (InBound x f) ∷ fs) = worded word.In ∷ a_value ∷ owed_by fs
owed_by (AtLet (InBody x m f) ∷ fs) = owed_by fs
owed_by (AtBlock (InBlock f o s) ∷ fs) = marked mark.CurlyClose ∷ owed_by fs
owed_by (AtBlock (InYes e f o s) ∷ fs) = marked mark.CurlyClose ∷ worded word.Else ∷ a_block (owed_by fs)
owed_by (AtBlock (InNo e m f o s) ∷ fs) = marked mark.CurlyClose ∷ owed_by fs
owed_by (AtBlock (InSpawn f o s) ∷ fs) = marked mark.CurlyClose ∷ owed_by fs
owed_by (AtGuard (InFree g a) ∷ fs) = marked mark.CurlyClose ∷ owed_by fs
owed_by (AtGuard (InReceive r x) ∷ fs) = marked mark.CurlyClose ∷ owed_by fs
owed_by (AtBlock (InDef d a) ∷ fs) = marked mark.CurlyClose ∷ []

-- behind a name that was wanted
abbrev owed_name : Naming → List Frame → List Spanned
owed_name (InterfaceName ds) fs = marked mark.CurlyOpen ∷ a_name ∷ marked mark.RoundOpen ∷ marked mark.RoundClose ∷ marked mark.CurlyClose ∷ []
owed_name (MessageName i) fs = marked mark.RoundOpen ∷ marked mark.RoundClose ∷ marked mark.CurlyClose ∷ []
owed_name (FunctionName ds) fs = marked mark.RoundOpen ∷ marked mark.RoundClose ∷ a_result
owed_name (ParamName d) fs = marked mark.Colon ∷ worded word.UnitWord ∷ marked mark.RoundClose ∷ a_result
owed_name (LetName f) fs = marked mark.Equals ∷ a_value ∷ worded word.In ∷ a_value ∷ owed_by fs
owed_name (NewName f o) fs = marked mark.SquareClose ∷ owed_by fs
owed_name (FreeName f o) fs = marked mark.RoundClose ∷ owed_by fs
owed_name (GuardName f) fs = marked mark.Colon ∷ a_name ∷ marked mark.CurlyOpen ∷ worded word.Fail ∷ marked mark.CurlyClose ∷ owed_by fs
owed_name (TagName x) fs = marked mark.RoundOpen ∷ marked mark.RoundClose ∷ owed_by fs
owed_name (ReceiveName g a) fs = marked mark.RoundOpen ∷ marked mark.RoundClose ∷ a_sender (owed_by fs)
owed_name (BinderName r) fs = marked mark.RoundClose ∷ a_sender (owed_by fs)
owed_name (FromName r) fs = a_clause (owed_by fs)

abbrev pub owed_at : Control → List Frame → List Spanned
owed_at (AtDecl b ds) fs = worded word.Def ∷ a_name ∷ marked mark.RoundOpen ∷ marked mark.RoundClose ∷ a_result
owed_at (WantName what) fs = a_name ∷ owed_name what fs
owed_at (GotName what x) fs = owed_name what fs
owed_at FirstPayload fs = owed_by fs
owed_at (AfterMessage i) fs = marked mark.CurlyClose ∷ []
owed_at (FirstParam d) fs = marked mark.RoundClose ∷ a_result
owed_at (AfterParams d) fs = a_result
owed_at WantType fs = worded word.UnitWord ∷ owed_by fs
owed_at (AfterTypeName x) fs = marked mark.Bang ∷ a_name ∷ owed_by fs
owed_at (AfterPolarity x q t) fs = owed_by fs
owed_at (HaveType a) fs = owed_by fs
owed_at (WantPattern p) fs = a_name ∷ owed_by fs
owed_at (HavePattern p q t) fs = owed_by fs
owed_at (Start b) fs = a_value ∷ owed_by fs
owed_at (Named x) fs = owed_by fs
owed_at (AfterPrint f) fs = marked mark.RoundOpen ∷ a_value ∷ marked mark.RoundClose ∷ owed_by fs
owed_at (AfterNew f) fs = marked mark.SquareOpen ∷ a_name ∷ marked mark.SquareClose ∷ owed_by fs
owed_at (AfterSpawn f) fs = a_block (owed_by fs)
owed_at (AfterFree f) fs = marked mark.RoundOpen ∷ a_name ∷ marked mark.RoundClose ∷ owed_by fs
owed_at (AfterYes e m f) fs = worded word.Else ∷ a_block (owed_by fs)
owed_at (AfterElse e m f) fs = a_block (owed_by fs)
owed_at (AtClause b g) fs = worded word.Fail ∷ marked mark.CurlyClose ∷ owed_by fs
owed_at (AfterFreeWord g a) fs = a_clause (owed_by fs)
owed_at (FirstBinder r) fs = marked mark.RoundClose ∷ a_sender (owed_by fs)
owed_at (AfterBinders r) fs = a_sender (owed_by fs)
owed_at FirstArg fs = owed_by fs
owed_at Opened fs = owed_by fs
owed_at (Want p) fs = a_value ∷ owed_by fs
owed_at (Have p a t) fs = owed_by fs
owed_at (Done m f) fs = owed_by fs

-- ---- with it, a program is complete

pub record Completes (lim : Limits) (x : State) (ts : List Spanned) : Type 0 where
  pub after : State
  pub tree : tree.Tree
  pub runs : run lim x (map free_item ts) ≡ Ok after
  pub ends_as : finish after ≡ Some tree

-- the run goes over another state, as it is computed or known
goes : (lim : Limits) (x y : State) (ts us : List Spanned) → run lim x (map free_item ts) ≡ run lim y (map free_item us) → Completes lim y us → Completes lim x ts
goes lim x y ts us h c = record { after = c.after; tree = c.tree; runs = h ∙ c.runs; ends_as = c.ends_as }

comes : (lim : Limits) (x y : State) (t : Spanned) (ts : List Spanned) → step lim x (free_item t) ≡ Ok y → Completes lim y ts → Completes lim x (t ∷ ts)
comes lim x y t ts h c = goes lim x y (t ∷ ts) ts (run_step lim x y (free_item t) (map free_item ts) h) c

-- here the tokens may end
ends : (lim : Limits) (ds : tree.Tree) (fs : List Frame) (o k s : ℕ) → Completes lim (state (AtDecl false ds) fs o k s) []
ends lim ds fs o k s = record { after = state (AtDecl false ds) fs o k s; tree = ds; runs = refl; ends_as = refl }

abbrev CompletesAt : Limits → Kind → List Frame → Type 0
CompletesAt lim (ForType b) fs = (a : tree.WrittenType) (y : State) (o : ℕ) → BehindType lim y fs o a → Completes lim y (owed_by fs)
CompletesAt lim ForPattern fs = (p : Before) (q : tree.Pattern) (t o k s : ℕ) → Completes lim (state (HavePattern p q t) fs o k s) (owed_by fs)
CompletesAt lim ForExpr fs = (p : Pending) (a : Operand) (t o k s : ℕ) → Completes lim (state (Have p a t) fs o k s) (owed_by fs)
CompletesAt lim ForSimple fs = (c : Control) (m : tree.Term) (f o k s : ℕ) → Stands m f c → Completes lim (state c fs o k s) (owed_by fs)
CompletesAt lim ForAny fs = (gs : List Frame) (c : Control) (m n : tree.Term) (f o k s : ℕ) → Stands m f c → bodies gs m ≡ bodies fs n → Completes lim (state c gs o k s) (owed_by fs)

abbrev nowhere : tree.Span
nowhere = span 0 0

abbrev some_name : tree.Name
some_name = record { text = any_name; span = nowhere }

abbrev bit : tree.Expr
bit = tree.BoolExpr true nowhere

abbrev value_term : tree.Term
value_term = tree.ValueTerm bit nowhere

stands_bit : Stands value_term 0 (Have nothing (bit, 0) 0)
stands_bit = is_value (is_had nothing (bit, 0) refl)

-- a closing brace behind a term
brace : (lim : Limits) (fs gs : List Frame) (o k s : ℕ) {c : Control} {m : tree.Term} (n : tree.Term) {f : ℕ} (y : State) → Stands m f c → bodies gs m ≡ bodies fs n → settle lim true (block_end (bodies fs n).0 (bodies fs n).1 nowhere) ≡ Ok y → step lim (state c gs o k s) (free_item (marked mark.CurlyClose)) ≡ Ok y
brace lim fs gs o k s n y st same h = stands_step lim gs o k s (Mark mark.CurlyClose) (record { from = 0; to = 0; free = true }) st refl ∙ ap (λ (q : List Frame × tree.Term). settle lim true (block_end q.0 q.1 nowhere)) same ∙ h

completes : (lim : Limits) {i : Kind} {fs : List Frame} {o k s : ℕ} {all ts : List Item} → Under lim i fs o k s all ts → CompletesAt lim i fs
completes lim (in_message {i = i} {x = x} {w = w} {ps = ps} ib room fl) = λ a y o beh.
    comes lim y (state (AfterMessage (with_message i (named x w) (ps ++ a ∷ []))) [] 1 0 0) (marked mark.RoundClose) (marked mark.CurlyClose ∷ []) (beh (Mark mark.RoundClose) (record { from = 0; to = 0; free = true }) refl)
    (record { after = _; tree = _; runs = refl; ends_as = refl })
completes lim (in_param {d = d} {x = x} {w = w} h) = λ a y o beh.
    comes lim y (state (AfterParams (with_param d (named x w) a)) [] 0 0 0) (marked mark.RoundClose) a_result (beh (Mark mark.RoundClose) (record { from = 0; to = 0; free = true }) refl)
    (record { after = _; tree = _; runs = refl; ends_as = refl })
completes lim (in_result {d = d} h) = λ a y o beh.
    comes lim y (state (Start true) (AtBlock (InDef d a) ∷ []) (suc o) 0 0) (marked mark.CurlyOpen) (a_value ∷ marked mark.CurlyClose ∷ []) (beh (Mark mark.CurlyOpen) (record { from = 0; to = 0; free = true }) refl)
    (record { after = _; tree = _; runs = refl; ends_as = refl })
completes lim (in_typed {fs = fs} {x = x} {q = r} {w = w} u is) = λ p q t o k s.
    completes lim u (typed_by (named x w) r (whole_in p q) t) (state (HavePattern p q t) (AtPattern (InTyped (named x w) r) ∷ fs) o k s) o (pattern_goes lim fs o k s (named x w) r (whole_in p q) p q t refl)
completes lim (in_guarded {fs = fs} {x = x} {w = w} {n = n} u) = λ p q t o k s.
    let m = guard_term (guarding (named x n) (whole_in p q) w.from o s (tree.FailClause nowhere ∷ [])) 0 in
    goes lim (state (HavePattern p q t) (AtPattern (InGuarded (named x n) w.from) ∷ fs) o k s) (state (Done m w.from) fs o 0 s) _ (owed_by fs) refl (completes lim u (Done m w.from) m w.from o 0 s (is_done m w.from))
completes lim (in_pattern_bracket {fs = fs} {o = o1} {p = r} u d room) = λ p q t o k s.
    goes lim (state (HavePattern p q t) (AtPattern (InPatternBracket r o1) ∷ fs) o k s) (state (HavePattern r (whole_in p q) 0) fs o1 k s) _ (owed_by fs) refl (completes lim u r (whole_in p q) 0 o1 k s)
completes lim (in_bracket {fs = fs} {o = o1} {p = r} {w = w} u d room) = λ p a t o k s.
    goes lim (state (Have p a t) (AtExpr (InBracket r w.from o1) ∷ fs) o k s) (state (Have r ((whole_of p a t).0, w.from) 0) fs o1 k s) _ (owed_by fs) refl (completes lim u r ((whole_of p a t).0, w.from) 0 o1 k s)
completes lim (in_print {fs = fs} {o = o1} {w = w} u room) = λ p a t o k s.
    let m = tree.PrintTerm (whole_of p a t).0 (span w.from 0) in
    goes lim (state (Have p a t) (AtExpr (InPrint w.from o1) ∷ fs) o k s) (state (Done m w.from) fs o1 0 s) _ (owed_by fs) refl (completes lim u (Done m w.from) m w.from o1 0 s (is_done m w.from))
completes lim (in_args {fs = fs} {o = o1} {h = h} {es = es} u d room fl) = λ p a t o k s.
    let m = made h (es ++ (whole_of p a t).0 ∷ []) 0 in
    goes lim (state (Have p a t) (AtExpr (InArgs h es o1) ∷ fs) o k s) (state (Done m (head_from h)) fs o1 0 s) _ (owed_by fs) refl (completes lim u (Done m (head_from h)) m (head_from h) o1 0 s (is_done m (head_from h)))
completes lim (in_test {fs = fs} {w = w} u) = λ p a t o k s.
    let m = tree.IfTerm (whole_of p a t).0 value_term value_term (span w.from 0) in
    goes lim (state (Have p a t) (AtExpr (InTest w.from) ∷ fs) o k s) (state (Done m w.from) fs o 0 s) _ (owed_by fs) refl (completes lim u (Done m w.from) m w.from o 0 s (is_done m w.from))
completes lim (as_value {fs = fs} u) = λ p a t o k s.
    let v = whole_of p a t in
    completes lim u (Have p a t) (tree.ValueTerm v.0 (span v.1 t)) v.1 o k s (is_value (is_had p a refl))
completes lim (in_bound {fs = fs} {x = x} {w = w} {n = n} u) = λ c m f o k s st.
    let gs = AtLet (InBody (Some (named x n)) m w.from) ∷ fs in
    comes lim (state c (AtLet (InBound (named x n) w.from) ∷ fs) o k s) (state (Start true) gs o 0 (suc s)) (worded word.In) (a_value ∷ owed_by fs) (stands_step lim (AtLet (InBound (named x n) w.from) ∷ fs) o k s (Word word.In) (record { from = 0; to = 0; free = true }) st refl)
    (goes lim (state (Start true) gs o 0 (suc s)) (state (Have nothing (bit, 0) 0) gs o 0 (suc s)) _ (owed_by fs) refl (completes lim u gs (Have nothing (bit, 0) 0) value_term (tree.LetTerm (Some (named x n)) m value_term (span w.from 0)) 0 o 0 (suc s) stands_bit refl))
completes lim (as_simple {fs = fs} u) = λ c m f o k s st. completes lim u fs c m m f o k s st refl
completes lim (in_then {f = g} {m = b} u t room) = λ gs c m n f o k s st same. completes lim u gs c m (tree.LetTerm None b n (span g (term_at n).to)) f o k s st same
completes lim (in_body {x = x} {w = w} {n = y} {m = b} u t room) = λ gs c m n f o k s st same. completes lim u gs c m (tree.LetTerm (Some (named x y)) b n (span w.from (term_at n).to)) f o k s st same
completes lim (in_block {fs = fs} {o = o1} {s = s1} {w = w} u room) = λ gs c m n f o k s st same.
    let y = state (Done n w.from) fs o1 0 s1 in
    comes lim (state c gs o k s) y (marked mark.CurlyClose) (owed_by fs) (brace lim (AtBlock (InBlock w.from o1 s1) ∷ fs) gs o k s n y st same refl) (completes lim u (Done n w.from) n w.from o1 0 s1 (is_done n w.from))
completes lim (in_yes {fs = fs} {o = o1} {s = s1} {w = w} {a = a} u e room) = λ gs c m n f o k s st same.
    let y = state (AfterYes a.0 n w.from) fs o1 0 s1 in
    let i = tree.IfTerm a.0 n value_term (span w.from 0) in
    comes lim (state c gs o k s) y (marked mark.CurlyClose) (worded word.Else ∷ a_block (owed_by fs)) (brace lim (AtBlock (InYes a.0 w.from o1 s1) ∷ fs) gs o k s n y st same refl)
    (goes lim y (state (Done i w.from) fs o1 0 s1) _ (owed_by fs) refl (completes lim u (Done i w.from) i w.from o1 0 s1 (is_done i w.from)))
completes lim (in_no {fs = fs} {o = o1} {s = s1} {w = w} {a = a} {m = b} u e room t space) = λ gs c m n f o k s st same.
    let i = tree.IfTerm a.0 b n (span w.from 0) in
    let y = state (Done i w.from) fs o1 0 s1 in
    comes lim (state c gs o k s) y (marked mark.CurlyClose) (owed_by fs) (brace lim (AtBlock (InNo a.0 b w.from o1 s1) ∷ fs) gs o k s n y st same refl) (completes lim u (Done i w.from) i w.from o1 0 s1 (is_done i w.from))
completes lim (in_spawn {fs = fs} {o = o1} {s = s1} {w = w} u room) = λ gs c m n f o k s st same.
    let i = tree.SpawnTerm n (span w.from 0) in
    let y = state (Done i w.from) fs o1 0 s1 in
    comes lim (state c gs o k s) y (marked mark.CurlyClose) (owed_by fs) (brace lim (AtBlock (InSpawn w.from o1 s1) ∷ fs) gs o k s n y st same refl) (completes lim u (Done i w.from) i w.from o1 0 s1 (is_done i w.from))
completes lim (in_free {fs = fs} {w = v} (guard_read {o = o1} {s = s1} {x = x} {w = w} {n = q} {p = p} {cs = cs} u d room l)) = λ gs c m n f o k s st same.
    let g = guarding (named x q) p w.from o1 s1 cs in
    let i = guard_term (free_of g (place_of v) n) 0 in
    let y = state (Done i w.from) fs o1 0 s1 in
    comes lim (state c gs o k s) y (marked mark.CurlyClose) (owed_by fs) (brace lim (AtGuard (InFree g (place_of v)) ∷ fs) gs o k s n y st same refl) (completes lim u (Done i w.from) i w.from o1 0 s1 (is_done i w.from))
completes lim (in_receive {fs = fs} {x = e} {y = b} {ns = ns} {w = v} {n = a} {h = h} (guard_read {o = o1} {s = s1} {x = x} {w = w} {n = q} {p = p} {cs = cs} u d room l) space bs) = λ gs c m n f o k s st same.
    let r : ClauseHead = record { guard = guarding (named x q) p w.from o1 s1 cs; word = place_of v; tag = named e a; names = ns } in
    let i = guard_term (receive_of r (named b h) n) 0 in
    let y = state (Done i w.from) fs o1 0 s1 in
    comes lim (state c gs o k s) y (marked mark.CurlyClose) (owed_by fs) (brace lim (AtGuard (InReceive r (named b h)) ∷ fs) gs o k s n y st same refl) (completes lim u (Done i w.from) i w.from o1 0 s1 (is_done i w.from))
completes lim (in_def {d = d} {r = r} h t room) = λ gs c m n f o k s st same.
    let ds = d.decls ++ tree.DefDecl d.name d.params r n ∷ [] in
    comes lim (state c gs o k s) (state (AtDecl false ds) [] 0 0 0) (marked mark.CurlyClose) [] (brace lim (AtBlock (InDef d r) ∷ []) gs o k s n (state (AtDecl false ds) [] 0 0 0) st same refl) (ends lim ds [] 0 0 0)

-- a term that has been read whole, and what is owed behind it
done_completes : (lim : Limits) {fs : List Frame} {o s : ℕ} {all ts : List Item} (m : tree.Term) (f : ℕ) → Under lim ForSimple fs o 0 s all ts → Completes lim (state (Done m f) fs o 0 s) (owed_by fs)
done_completes lim {o = o} {s = s} m f u = completes lim u (Done m f) m f o 0 s (is_done m f)

wants_completes : (lim : Limits) {what : Naming} {fs : List Frame} {o s : ℕ} {all ts : List Item} (y : tree.Name) → Wants lim what fs o s all ts → Completes lim (state (GotName what y) fs o 0 s) (owed_name what fs)
wants_completes lim y (for_interface d) = record { after = _; tree = _; runs = refl; ends_as = refl }
wants_completes lim y (for_message i) = record { after = _; tree = _; runs = refl; ends_as = refl }
wants_completes lim y (for_function d) = record { after = _; tree = _; runs = refl; ends_as = refl }
wants_completes lim y (for_param d) = record { after = _; tree = _; runs = refl; ends_as = refl }
wants_completes lim y (for_let {fs = fs} {o = o} {s = s} {w = w} u) =
    let gs = AtLet (InBody (Some y) value_term w.from) ∷ fs in
    goes lim (state (GotName (LetName w.from) y) fs o 0 s) (state (Have nothing (bit, 0) 0) gs o 0 (suc s)) _ (owed_by fs) refl (completes lim u gs (Have nothing (bit, 0) 0) value_term (tree.LetTerm (Some y) value_term value_term (span w.from 0)) 0 o 0 (suc s) stands_bit refl)
wants_completes lim y (for_new {fs = fs} {o = o} {s = s} {w = w} u room) =
    let m = tree.NewTerm y (span w.from 0) in
    goes lim (state (GotName (NewName w.from o) y) fs (suc o) 0 s) (state (Done m w.from) fs o 0 s) _ (owed_by fs) refl (done_completes lim m w.from u)
wants_completes lim y (for_free {fs = fs} {o = o} {s = s} {w = w} u room) =
    let m = tree.FreeTerm y (span w.from 0) in
    goes lim (state (GotName (FreeName w.from o) y) fs (suc o) 0 s) (state (Done m w.from) fs o 0 s) _ (owed_by fs) refl (done_completes lim m w.from u)
wants_completes lim y (for_guard {fs = fs} {o = o} {s = s} {w = w} u) =
    let m = guard_term (guarding y (tree.TagPattern (some_name)) w.from o s (tree.FailClause nowhere ∷ [])) 0 in
    goes lim (state (GotName (GuardName w.from) y) fs o 0 s) (state (Done m w.from) fs o 0 s) _ (owed_by fs) refl (done_completes lim m w.from u)
wants_completes lim y (for_tag {fs = fs} {o = o} {s = s} {x = x} {a = a} u) =
    let m = tree.SendTerm (named x a) y [] (span a.from 0) in
    goes lim (state (GotName (TagName (named x a)) y) fs o 0 s) (state (Done m a.from) fs o 0 s) _ (owed_by fs) refl (done_completes lim m a.from u)
wants_completes lim y (for_receive {fs = fs} {w = v} (guard_read {o = o} {s = s} {x = x} {w = w} {n = n} {p = p} {cs = cs} u d room l)) =
    let g = guarding (named x n) p w.from o s cs in
    let m = guard_term (receive_of (record { guard = g; word = place_of v; tag = y; names = [] }) (some_name) value_term) 0 in
    goes lim (state (GotName (ReceiveName g (place_of v)) y) fs (suc o) 0 s) (state (Done m w.from) fs o 0 s) _ (owed_by fs) refl (done_completes lim m w.from u)
wants_completes lim y (for_binder {fs = fs} (receive_begun {x = e} {ns = ns} {w = v} {n = a} (guard_read {o = o} {s = s} {x = x} {w = w} {n = n} {p = p} {cs = cs} u d room l) space fl)) =
    let g = guarding (named x n) p w.from o s cs in
    let r : ClauseHead = record { guard = g; word = place_of v; tag = named e a; names = ns } in
    let m = guard_term (receive_of (with_name r y) (some_name) value_term) 0 in
    goes lim (state (GotName (BinderName r) y) fs (suc (suc o)) 0 s) (state (Done m w.from) fs o 0 s) _ (owed_by fs) refl (done_completes lim m w.from u)
wants_completes lim y (for_from {fs = fs} (receive_read {x = e} {ns = ns} {w = v} {n = a} (guard_read {o = o} {s = s} {x = x} {w = w} {n = n} {p = p} {cs = cs} u d room l) space bs)) =
    let g = guarding (named x n) p w.from o s cs in
    let r : ClauseHead = record { guard = g; word = place_of v; tag = named e a; names = ns } in
    let m = guard_term (receive_of r y value_term) 0 in
    goes lim (state (GotName (FromName r) y) fs (suc o) 0 s) (state (Done m w.from) fs o 0 s) _ (owed_by fs) refl (done_completes lim m w.from u)

-- a type place: a name, an exclamation mark and a pattern
named_type : (lim : Limits) {b : Bool} {fs : List Frame} {o : ℕ} {all ts : List Item} (x : tree.Name) → Under lim (ForType b) fs o 0 0 all ts → Completes lim (state (AfterTypeName x) fs o 0 0) (marked mark.Bang ∷ a_name ∷ owed_by fs)
named_type lim x (in_message i room fl) = record { after = _; tree = _; runs = refl; ends_as = refl }
named_type lim x (in_param d) = record { after = _; tree = _; runs = refl; ends_as = refl }
named_type lim x (in_result d) = record { after = _; tree = _; runs = refl; ends_as = refl }

pub built_completes : (lim : Limits) {x : State} {all us : List Item} → Built lim x all us → Completes lim x (owed_at x.control x.stack)
built_completes lim (at_decl d) = record { after = _; tree = _; runs = refl; ends_as = refl }
built_completes lim (at_want_name {what = what} {fs = fs} {o = o} {s = s} d) =
    let y : tree.Name = some_name in
    goes lim (state (WantName what) fs o 0 s) (state (GotName what y) fs o 0 s) _ (owed_name what fs) refl (wants_completes lim y d)
built_completes lim (at_got_name {x = x} {n = n} d) = wants_completes lim (named x n) d
built_completes lim (at_first_payload i room) = record { after = _; tree = _; runs = refl; ends_as = refl }
built_completes lim (at_after_message i) = record { after = _; tree = _; runs = refl; ends_as = refl }
built_completes lim (at_first_param d room) = record { after = _; tree = _; runs = refl; ends_as = refl }
built_completes lim (at_after_params d) = record { after = _; tree = _; runs = refl; ends_as = refl }
built_completes lim (at_want_type {fs = fs} {o = o} u) =
    let a = tree.BaseType _ nowhere in
    goes lim (state WantType fs o 0 0) (state (HaveType a) fs o 0 0) _ (owed_by fs) refl (completes lim u a (state (HaveType a) fs o 0 0) o (base_goes lim fs o a))
built_completes lim (at_type_name {x = x} {w = w} u) = named_type lim (named x w) u
built_completes lim (at_polarity {fs = fs} {o = o} {x = x} {q = q} {w = w} {v = v} u is) = completes lim u (tree.MailboxType (named x w) q None (span w.from v.to)) (state (AfterPolarity (named x w) q v.to) fs o 0 0) o (short_goes lim fs o (named x w) q v.to)
built_completes lim (at_have_type {fs = fs} {o = o} {a = a} u d) = completes lim u a (state (HaveType a) fs o 0 0) o (base_goes lim fs o a)
built_completes lim (at_want_pattern {fs = fs} {o = o} {k = k} {s = s} {p = p} u d) =
    let q = tree.TagPattern (some_name) in
    goes lim (state (WantPattern p) fs o k s) (state (HavePattern p q 0) fs o k s) _ (owed_by fs) refl (completes lim u p q 0 o k s)
built_completes lim (at_have_pattern {fs = fs} {o = o} {k = k} {s = s} {t = t} {p = p} {q = q} u d i) = completes lim u p q t o k s
built_completes lim (at_start {fs = fs} {o = o} {s = s} u) =
    goes lim (state (Start true) fs o 0 s) (state (Have nothing (bit, 0) 0) fs o 0 s) _ (owed_by fs) refl (completes lim (as_simple u) (Have nothing (bit, 0) 0) value_term 0 o 0 s stands_bit)
built_completes lim (at_bound {fs = fs} {o = o} {s = s} u) =
    goes lim (state (Start false) fs o 0 s) (state (Have nothing (bit, 0) 0) fs o 0 s) _ (owed_by fs) refl (completes lim u (Have nothing (bit, 0) 0) value_term 0 o 0 s stands_bit)
built_completes lim (at_named {fs = fs} {o = o} {s = s} {x = x} {w = w} u) =
    completes lim u (Named (named x w)) (tree.ValueTerm (tree.VarExpr x (place_of w)) (span w.from w.to)) w.from o 0 s (is_value (is_named (named x w)))
built_completes lim (at_print {fs = fs} {o = o} {s = s} {w = w} u) =
    let m = tree.PrintTerm bit (span w.from 0) in
    goes lim (state (AfterPrint w.from) fs o 0 s) (state (Done m w.from) fs o 0 s) _ (owed_by fs) refl (done_completes lim m w.from u)
built_completes lim (at_new {fs = fs} {o = o} {s = s} {w = w} u) =
    let m = tree.NewTerm (some_name) (span w.from 0) in
    goes lim (state (AfterNew w.from) fs o 0 s) (state (Done m w.from) fs o 0 s) _ (owed_by fs) refl (done_completes lim m w.from u)
built_completes lim (at_spawn {fs = fs} {o = o} {s = s} {w = w} u) =
    let m = tree.SpawnTerm value_term (span w.from 0) in
    goes lim (state (AfterSpawn w.from) fs o 0 s) (state (Done m w.from) fs o 0 s) _ (owed_by fs) refl (done_completes lim m w.from u)
built_completes lim (at_free {fs = fs} {o = o} {s = s} {w = w} u) =
    let m = tree.FreeTerm (some_name) (span w.from 0) in
    goes lim (state (AfterFree w.from) fs o 0 s) (state (Done m w.from) fs o 0 s) _ (owed_by fs) refl (done_completes lim m w.from u)
built_completes lim (at_yes {fs = fs} {o = o} {s = s} {w = w} {a = a} {m = n} u e room t) =
    let m = tree.IfTerm a.0 n value_term (span w.from 0) in
    goes lim (state (AfterYes a.0 n w.from) fs o 0 s) (state (Done m w.from) fs o 0 s) _ (owed_by fs) refl (done_completes lim m w.from u)
built_completes lim (at_else {fs = fs} {o = o} {s = s} {w = w} {a = a} {m = n} u e room t) =
    let m = tree.IfTerm a.0 n value_term (span w.from 0) in
    goes lim (state (AfterElse a.0 n w.from) fs o 0 s) (state (Done m w.from) fs o 0 s) _ (owed_by fs) refl (done_completes lim m w.from u)
built_completes lim (at_clause {b = b} (guard_read {fs = fs} {o = o} {s = s} {x = x} {w = w} {n = n} {p = p} {cs = cs} u d room l)) =
    let g = guarding (named x n) p w.from o s cs in
    let m = guard_term (guarding (named x n) p w.from o s (cs ++ tree.FailClause nowhere ∷ [])) 0 in
    goes lim (state (AtClause (not b) g) fs (suc o) 0 s) (state (Done m w.from) fs o 0 s) _ (owed_by fs) refl (done_completes lim m w.from u)
built_completes lim (at_free_word {w = v} (guard_read {fs = fs} {o = o} {s = s} {x = x} {w = w} {n = n} {p = p} {cs = cs} u d room l)) =
    let g = guarding (named x n) p w.from o s cs in
    let m = guard_term (free_of g (place_of v) value_term) 0 in
    goes lim (state (AfterFreeWord g (place_of v)) fs (suc o) 0 s) (state (Done m w.from) fs o 0 s) _ (owed_by fs) refl (done_completes lim m w.from u)
built_completes lim (at_first_binder {x = e} {w = v} {n = a} (guard_read {fs = fs} {o = o} {s = s} {x = x} {w = w} {n = n} {p = p} {cs = cs} u d room l) space) =
    let r : ClauseHead = record { guard = guarding (named x n) p w.from o s cs; word = place_of v; tag = named e a; names = [] } in
    let m = guard_term (receive_of r (some_name) value_term) 0 in
    goes lim (state (FirstBinder r) fs (suc (suc o)) 0 s) (state (Done m w.from) fs o 0 s) _ (owed_by fs) refl (done_completes lim m w.from u)
built_completes lim (at_after_binders (receive_read {x = e} {ns = ns} {w = v} {n = a} (guard_read {fs = fs} {o = o} {s = s} {x = x} {w = w} {n = n} {p = p} {cs = cs} u d room l) space bs)) =
    let r : ClauseHead = record { guard = guarding (named x n) p w.from o s cs; word = place_of v; tag = named e a; names = ns } in
    let m = guard_term (receive_of r (some_name) value_term) 0 in
    goes lim (state (AfterBinders r) fs (suc o) 0 s) (state (Done m w.from) fs o 0 s) _ (owed_by fs) refl (done_completes lim m w.from u)
built_completes lim (at_first_arg {fs = fs} {o = o} {s = s} {h = h} u d room) =
    let m = made h [] 0 in
    goes lim (state FirstArg (AtExpr (InArgs h [] o) ∷ fs) (suc o) 0 s) (state (Done m (head_from h)) fs o 0 s) _ (owed_by fs) refl (done_completes lim m (head_from h) u)
built_completes lim (at_opened {fs = fs} {o = o} {k = k} {s = s} {p = p} {w = w} u d room) =
    let a : Operand = (tree.UnitExpr (span w.from 0), w.from) in
    goes lim (state Opened (AtExpr (InBracket p w.from o) ∷ fs) (suc o) k s) (state (Have p a 0) fs o k s) _ (owed_by fs) refl (completes lim u p a 0 o k s)
built_completes lim (at_want {fs = fs} {o = o} {k = k} {s = s} {p = p} u d) =
    goes lim (state (Want p) fs o k s) (state (Have p (bit, 0) 0) fs o k s) _ (owed_by fs) refl (completes lim u p (bit, 0) 0 o k s)
built_completes lim (at_have {fs = fs} {o = o} {k = k} {s = s} {t = t} {p = p} {a = a} u d i) = completes lim u p a t o k s
built_completes lim (at_done {f = f} {m = m} u d) = done_completes lim m f u
