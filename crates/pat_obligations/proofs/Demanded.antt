-- What is listed of a whole term is what the definitions demand of it.
use Rattle.std.proofs.Common.{◌≡◌, ℕ, suc, ◌+◌, Bool, true, false, nat_lt, if◌then◌else◌, List, [], ◌∷◌, ◌++◌, map, Option, Some, None, option_map, refl, sym, ap, ◌∙◌, arith}
use Rattle.std.specs.Prelude.{slice_get, option_and_then}
use Rattle.std.specs.Map.{keys_of}
use Rattle.std.proofs.lemmas.Option.{slice_get-map}
use Rattle.pat_words_spec.specs.Patterns.{Pat, One, Tag, residual}
use Rattle.pat_semantics_spec.specs.Values.{Kind, Plain, MailboxOf, Expr, VarExpr, Literal, OpExpr}
use Rattle.pat_semantics_spec.specs.Programs.{Sending, Receiving, Sort, TagDecl, Function, Clause, Core, Val, Let, Call, If, Print, New, Send, Spawn, Guard, Program, function_at, tag_at}
use Rattle.pat_type_system_spec.specs.Types.{Second, Returnable, MailboxType, TypeOf, BaseTerm, MailboxTerm, mailbox_type, TypeEnv, no_types, with_type}
use Rattle.pat_type_system_spec.specs.Typings.{Typing, param_type, result_type, payload_sort, payload_type, with_option, args_need, mailbox_args, with_payloads, clause_env, without_name}
use Rattle.pat_type_schemes_spec.specs.NodeTypes.{Needs, need_of}
use Rattle.pat_derivation_spec.specs.Derivations.{Line, Derivation, line_at, written_typing}
use Rattle.pat_derivation_spec.specs.Demands.{Demand, Pass}
use Rattle.pat_derivation_spec.specs.Conditions.{then_others, but_not, but_not_name, passes, divides, of_line, to_part, result_passes, value_asks, value_names, name_demands, named_demands, let_demands, call_demands, send_demands, clause_demands, free_demands, clauses_demand, bodies_demand, guard_demands, target_demands, term_demands}
use Rattle.pat_obligations.specs.Lists.{without_entry, returnable_entries, with_others}
use Rattle.pat_obligations.specs.Listed.{Signature, asked_args, asked_value, entry_before, named_payloads, clause_entries, passes_in, divides_in, passes_to, listed_name, listed_named, asks, drops, listed_call, listed_send, listed_target, let_names, listed_let, listed_clause, listed_free, listed_clauses, listed_bodies, listed_guard, listed_term}
use Rattle.pat_obligations.proofs.Listing.{cons_is, before_is, returnable_is, with_are, passes_are, divides_are, theres_are, without_is, joined, StandAt, first_at, later_at, none_at, none_later, args_are, args_named}

append_assoc : {A : Type 0} (xs ys zs : List A) → (xs ++ ys) ++ zs ≡ xs ++ (ys ++ zs)
append_assoc [] ys zs = refl
append_assoc (x ∷ xs) ys zs = ap (λ l. x ∷ l) (append_assoc xs ys zs)

-- ---- along names

pub passed : (xs ys : List ℕ) (g h : Needs) → passes_in (with_others xs ys) g h ≡ passes (then_others xs ys) (need_of g) (need_of h)
passed xs ys g h = ap (λ zs. passes_in zs g h) (with_are xs ys) ∙ passes_are (then_others xs ys) g h

part_is : (d : Derivation) (xs : List ℕ) (g : Needs) (m : ℕ) → passes_to xs g (line_at d m) ≡ to_part d xs (need_of g) m
part_is d xs g m = go (line_at d m)
  where
    go : (o : Option Line) → passes_to xs g o ≡ of_line o (λ l. passes (then_others xs (keys_of l.of.needs)) (need_of g) (need_of l.of.needs))
    go None = refl
    go (Some l) = passed xs (keys_of l.of.needs) g l.of.needs

asks_are : (needs asked : Needs) (xs : List ℕ) (h : TypeEnv) → keys_of asked ≡ xs → need_of asked ≡ h → asks needs asked ≡ passes (then_others xs (keys_of needs)) (need_of needs) h
asks_are needs asked xs h names types =
    passed (keys_of asked) (keys_of needs) needs asked
    ∙ ap (λ zs. passes (then_others zs (keys_of needs)) (need_of needs) (need_of asked)) names
    ∙ ap (λ t. passes (then_others xs (keys_of needs)) (need_of needs) t) types

drops_are : (needs : Needs) → drops needs ≡ passes (keys_of needs) (need_of needs) no_types
drops_are needs = passes_are (keys_of needs) needs []

-- ---- terms

value_is : (needs : Needs) (t : TypeOf) (e : Expr) → asks needs (asked_value t e) ≡ passes (then_others (value_names t e) (keys_of needs)) (need_of needs) (value_asks t e)
value_is needs (BaseTerm b) e = asks_are needs [] [] no_types refl refl
value_is needs (MailboxTerm i q f) (VarExpr x) =
    asks_are needs ((x, mailbox_type i q f Returnable) ∷ []) (x ∷ []) (with_type x (mailbox_type i q f Returnable) no_types) refl (cons_is x (mailbox_type i q f Returnable) [])
value_is needs (MailboxTerm i q f) (Literal c) = asks_are needs [] [] no_types refl refl
value_is needs (MailboxTerm i q f) (OpExpr op a b) = asks_are needs [] [] no_types refl refl

pub payload_stand : (decl : TagDecl) → StandAt (payload_type decl) 0 (map payload_sort decl.payloads)
payload_stand decl j = let e : 0 + j ≡ j = omega arith in ap (payload_type decl) e ∙ go (slice_get decl.payloads j) ∙ sym (ap joined (slice_get-map payload_sort decl.payloads j))
  where
    go : (o : Option Sort) → option_and_then payload_sort o ≡ joined (option_map payload_sort o)
    go None = refl
    go (Some s) = refl

send_is : (needs : Needs) (l : Line) (i x m : ℕ) (args : List Expr) (o : Option TagDecl) → l.of.needs ≡ needs → listed_send needs i x m args o ≡ send_demands l i x m args o
send_is needs l i x m args None same = refl
send_is needs l i x m args (Some decl) same =
    let target = mailbox_type i Sending (Tag m) Second in
    let types = map payload_sort decl.payloads in
    asks_are needs ((x, target) ∷ asked_args types args) (x ∷ mailbox_args (payload_type decl) 0 args) (with_type x target (args_need (payload_type decl) 0 args))
    (ap (λ zs. x ∷ zs) (args_named (payload_type decl) 0 types args (payload_stand decl)))
    (cons_is x target (asked_args types args) ∙ ap (with_type x target) (args_are (payload_type decl) 0 types args (payload_stand decl)))
    ∙ ap (λ ns. passes (then_others (x ∷ mailbox_args (payload_type decl) 0 args) (keys_of ns)) (need_of ns) (with_type x target (args_need (payload_type decl) 0 args))) (sym same)

target_is : (p : Program) (l : Line) (x m : ℕ) (args : List Expr) (o : Option Kind) → listed_target p l.of.needs x m args o ≡ target_demands p l x m args o
target_is p l x m args None = refl
target_is p l x m args (Some (Plain b)) = refl
target_is p l x m args (Some (MailboxOf i)) = send_is l.of.needs l i x m args (tag_at p i m) refl

named_is : (vars : List Kind) (m n : Line) (x : Option ℕ) → listed_named vars m n x ≡ named_demands vars m n x
named_is vars m n None = refl
named_is vars m n (Some x) = go (slice_get vars x)
  where
    go : (o : Option Kind) → listed_name o m.of.result n.of.needs x ≡ name_demands o m.of.result (need_of n.of.needs x)
    go None = refl
    go (Some (Plain b)) = refl
    go (Some (MailboxOf i)) = refl

let_is : (vars : List Kind) (l : Line) (x : Option ℕ) (m n : Option Line) → listed_let vars l.of.needs x m n ≡ let_demands vars l x m n
let_is vars l x None None = refl
let_is vars l x (Some m) None = theres_are (but_not_name x (keys_of m.of.needs)) l.of.needs m.of.needs
let_is vars l x None (Some n) = theres_are (but_not_name x (keys_of n.of.needs)) l.of.needs n.of.needs
let_is vars l x (Some m) (Some n) =
    let ms = but_not_name x (keys_of m.of.needs) in
    let ns = but_not_name x (keys_of n.of.needs) in
    let all = then_others (then_others (keys_of l.of.needs) ms) ns in
    let names : let_names l.of.needs x m.of.needs n.of.needs ≡ all =
    ap (λ zs. with_others zs ns) (with_are (keys_of l.of.needs) ms) ∙ with_are (then_others (keys_of l.of.needs) ms) ns in
    ap (λ zs. divides_in zs x l.of.needs m.of.needs n.of.needs ++ listed_named vars m n x) names
    ∙ ap (λ ds. ds ++ listed_named vars m n x) (divides_are all x l.of.needs m.of.needs n.of.needs)
    ∙ ap (λ ds. divides all (need_of l.of.needs) (without_name x (need_of m.of.needs)) (without_name x (need_of n.of.needs)) ++ ds) (named_is vars m n x)

-- ---- guards

none_payloads : (types : TypeEnv) (k : ℕ) (xs : List ℕ) (g : TypeEnv) → StandAt types k [] → with_payloads types k xs g ≡ g
none_payloads types k [] g h = refl
none_payloads types k (x ∷ xs) g h =
    ap (λ o. with_option x o (with_payloads types (suc k) xs g)) (none_at types k h) ∙ none_payloads types (suc k) xs g (none_later types k h)

before_append : (x : ℕ) (o : Option MailboxType) (rest base : Needs) → entry_before x o rest ++ base ≡ entry_before x o (rest ++ base)
before_append x None rest base = refl
before_append x (Some a) rest base = refl

payloads_are : (types : TypeEnv) (k : ℕ) (ss : List Sort) (xs : List ℕ) (base : Needs) → StandAt types k (map payload_sort ss) → need_of (named_payloads ss xs ++ base) ≡ with_payloads types k xs (need_of base)
payloads_are types k ss [] base h = refl
payloads_are types k [] (x ∷ xs) base h = sym (none_payloads types k (x ∷ xs) (need_of base) h)
payloads_are types k (s ∷ ss) (x ∷ xs) base h =
    let later = later_at types k (payload_sort s) (map payload_sort ss) h in
    ap need_of (before_append x (payload_sort s) (named_payloads ss xs) base)
    ∙ before_is x (payload_sort s) (named_payloads ss xs ++ base)
    ∙ ap (with_option x (payload_sort s)) (payloads_are types (suc k) ss xs base later)
    ∙ ap (λ o. with_option x o (with_payloads types (suc k) xs (need_of base))) (sym (first_at types k (payload_sort s) (map payload_sort ss) h))

clause_entries_are : (needs : Needs) (x i : ℕ) (e : Pat) (decl : TagDecl) (r : Clause) → need_of (clause_entries needs x i e decl r) ≡ clause_env (need_of needs) x i e decl r
clause_entries_are needs x i e decl r =
    let left = mailbox_type i Receiving (residual e r.tag) Returnable in
    cons_is r.from left (named_payloads decl.payloads r.vars ++ without_entry x needs)
    ∙ ap (with_type r.from left)
    (payloads_are (payload_type decl) 0 decl.payloads r.vars (without_entry x needs) (payload_stand decl)
    ∙ ap (with_payloads (payload_type decl) 0 r.vars) (without_is x needs))

module _ (p : Program) (d : Derivation) (needs : Needs) (x i : ℕ) (e : Pat) where
  free_is : (m : ℕ) → listed_free d needs x m ≡ free_demands d (keys_of needs) (need_of needs) x m
  free_is m =
      part_is d (but_not x (keys_of needs)) (without_entry x needs) m
      ∙ ap (λ h. to_part d (but_not x (keys_of needs)) h m) (without_is x needs)

  clause_is : (r : Clause) (o : Option TagDecl) → listed_clause d needs x i e r o ≡ clause_demands d (keys_of needs) (need_of needs) x i e r o
  clause_is r None = refl
  clause_is r (Some decl) =
      let xs = then_others (but_not x (keys_of needs)) (r.from ∷ r.vars) in
      ap (λ zs. passes_to zs (clause_entries needs x i e decl r) (line_at d r.body)) (with_are (but_not x (keys_of needs)) (r.from ∷ r.vars))
      ∙ part_is d xs (clause_entries needs x i e decl r) r.body
      ∙ ap (λ h. to_part d xs h r.body) (clause_entries_are needs x i e decl r)

  abbrev given_free : ℕ → List Demand
  given_free m = free_demands d (keys_of needs) (need_of needs) x m

  abbrev given_clause : Clause → List Demand
  given_clause r = clause_demands d (keys_of needs) (need_of needs) x i e r (tag_at p i r.tag)

  clauses_are : (o : Option ℕ) (rs : List Clause) → listed_clauses p d needs x i e o rs ≡ clauses_demand given_free given_clause o rs
  clauses_are None [] = refl
  clauses_are (Some m) [] = free_is m
  clauses_are None (r ∷ rs) =
      ap (λ ds. ds ++ listed_clauses p d needs x i e None rs) (clause_is r (tag_at p i r.tag))
      ∙ ap (λ ds. given_clause r ++ ds) (clauses_are None rs)
  clauses_are (Some m) (r ∷ rs) = go (nat_lt m r.body) (clauses_are None rs) (clauses_are (Some m) rs)
    where
      one : List Demand
      one = listed_clause d needs x i e r (tag_at p i r.tag)

      go : (b : Bool) → listed_clauses p d needs x i e None rs ≡ clauses_demand given_free given_clause None rs → listed_clauses p d needs x i e (Some m) rs ≡ clauses_demand given_free given_clause (Some m) rs → ((if b then listed_free d needs x m else []) ++ one) ++ listed_clauses p d needs x i e (if b then None else Some m) rs ≡ (if b then given_free m ++ (given_clause r ++ clauses_demand given_free given_clause None rs) else given_clause r ++ clauses_demand given_free given_clause (Some m) rs)
      go true none some =
          append_assoc (listed_free d needs x m) one (listed_clauses p d needs x i e None rs)
          ∙ ap (λ ds. ds ++ (one ++ listed_clauses p d needs x i e None rs)) (free_is m)
          ∙ ap (λ ds. given_free m ++ (ds ++ listed_clauses p d needs x i e None rs)) (clause_is r (tag_at p i r.tag))
          ∙ ap (λ ds. given_free m ++ (given_clause r ++ ds)) none
      go false none some =
          ap (λ ds. ds ++ listed_clauses p d needs x i e (Some m) rs) (clause_is r (tag_at p i r.tag))
          ∙ ap (λ ds. given_clause r ++ ds) some

  bodies_are : (o : Option ℕ) (rs : List Clause) → listed_bodies p d needs x i e o rs ≡ bodies_demand p d (keys_of needs) (need_of needs) x i e o rs
  bodies_are None [] =
      passes_are (but_not x (keys_of needs)) (without_entry x needs) []
      ∙ ap (λ h. passes (but_not x (keys_of needs)) h no_types) (without_is x needs)
  bodies_are None (r ∷ rs) = clauses_are None (r ∷ rs)
  bodies_are (Some m) rs = clauses_are (Some m) rs

guard_is : (p : Program) (d : Derivation) (needs : Needs) (x : ℕ) (e : Pat) (free : Option ℕ) (rs : List Clause) (o : Option Kind) → listed_guard p d needs x e free rs o ≡ guard_demands p d (keys_of needs) (need_of needs) x e free rs o
guard_is p d needs x e free rs None = refl
guard_is p d needs x e free rs (Some (Plain b)) = refl
guard_is p d needs x e free rs (Some (MailboxOf i)) =
    ap (λ ds. Pass (need_of needs x) (Some (mailbox_type i Receiving e Returnable)) ∷ ds) (bodies_are p d needs x i e free rs)

-- ---- calls

-- the signature is that of the function, in the typing; one is there where the other is
abbrev pub IsSignatureOf : Typing → ℕ → Option Function → Option Signature → Type 0
IsSignatureOf y f None None = Unit {0}
IsSignatureOf y f (Some g) (Some s) = StandAt (param_type y f g) 0 s.params × (s.result ≡ result_type y f g)
IsSignatureOf y f _ _ = ⊥

call_is : (y : Typing) (l : Line) (f : ℕ) (args : List Expr) (o : Option Function) (s : Option Signature) → IsSignatureOf y f o s → listed_call l.of.needs l.of.result args s ≡ call_demands y l f args o
call_is y l f args None None h = refl
call_is y l f args None (Some s) h = absurd h
call_is y l f args (Some g) None h = absurd h
call_is y l f args (Some g) (Some s) h =
    let types = param_type y f g in
    ap (λ ds. ds ++ result_passes s.result l.of.result)
    (asks_are l.of.needs (asked_args s.params args) (mailbox_args types 0 args) (args_need types 0 args) (args_named types 0 s.params args h.0) (args_are types 0 s.params args h.0))
    ∙ ap (λ t. passes (then_others (mailbox_args types 0 args) (keys_of l.of.needs)) (need_of l.of.needs) (args_need types 0 args) ++ result_passes t l.of.result) h.1

-- ---- all terms

pub term_is : (p : Program) (d : Derivation) (gs : List Signature) (vars : List Kind) (l : Line) (core : Core) → ((f : ℕ) → IsSignatureOf (written_typing p d) f (function_at p f) (slice_get gs f)) → listed_term p d gs vars l.of core ≡ term_demands p d vars l core
term_is p d gs vars l (Val e) h = value_is l.of.needs l.of.result e
term_is p d gs vars l (Print e) h = drops_are l.of.needs
term_is p d gs vars l (Let x m n) h = let_is vars l x (line_at d m) (line_at d n)
term_is p d gs vars l (Call f args) h = call_is (written_typing p d) l f args (function_at p f) (slice_get gs f) (h f)
term_is p d gs vars l (If e m n) h =
    let names = keys_of l.of.needs in
    ap (λ ds. ds ++ passes_to names l.of.needs (line_at d n)) (part_is d names l.of.needs m)
    ∙ ap (λ ds. to_part d names (need_of l.of.needs) m ++ ds) (part_is d names l.of.needs n)
term_is p d gs vars l (New i) h =
    ap (λ ds. result_passes (MailboxTerm i Receiving One) l.of.result ++ ds) (drops_are l.of.needs)
term_is p d gs vars l (Send x m args) h = target_is p l x m args (slice_get vars x)
term_is p d gs vars l (Spawn m) h =
    part_is d (keys_of l.of.needs) (returnable_entries l.of.needs) m
    ∙ ap (λ g. to_part d (keys_of l.of.needs) g m) (returnable_is l.of.needs)
term_is p d gs vars l (Guard x e free rs) h = guard_is p d l.of.needs x e free rs (slice_get vars x)
