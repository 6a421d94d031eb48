-- What is read of a line has this line, and is one that a reader takes.
use Rattle.std.proofs.Common.{◌≡◌, ℕ, zero, suc, ◌<◌, Bool, true, false, List, [], ◌∷◌, ◌++◌, length, refl, sym, ap, ◌∙◌, subst, arith, append-nil, append_assoc, if◌then◌else◌}
use Rattle.std.specs.Prelude.{Option, Some, None, option_map, option_and_then, bytes_eq, nat_lt, ◌&&◌, codes, slice_index_or}
use Rattle.std.specs.List.{list_all}
use Rattle.std.specs.Fmt.{decimal}
use Rattle.std.proofs.lemmas.Bool.{and_from, lt-ltb}
use Rattle.std.proofs.lemmas.Slice.Eq.{bytes_eq-Decides}
use Rattle.pat_semantics_spec.specs.Values.{Env, Value}
use Rattle.pat_semantics_spec.specs.Programs.{Program}
use Rattle.pat_semantics_spec.specs.Configs.{Control, Returned, Message}
use Rattle.pat_inclusion_spec.specs.Certificates.{Cert}
use Rattle.pat_texts_spec.specs.Numbers.{is_number, read_number}
use Rattle.pat_derivation_text_spec.specs.patterns.PatternReading.{place_of}
use Rattle.pat_texts_spec.specs.Fronts.{behind}
use Rattle.pat_texts_spec.proofs.Choices.{taken, made, made_next}
use Rattle.pat_texts_spec.proofs.Decimals.{number_spelled}
use Rattle.pat_derivation_text_laws.proofs.Spelled.{behind_is}
use Rattle.pat_texts_spec.specs.Joined.{cut, before}
use Rattle.pat_derivation_text_spec.specs.DerivationText.{interface_name, tag_names}
use Rattle.pat_derivation_text_spec.specs.LineReading.{found, read_cert}
use Rattle.pat_derivation_text_laws.proofs.LinesSpelled.{cut_is, before_is, cert_is}
use Rattle.pat_derivation_text_laws.proofs.TypesSpelled.{found_is}
use Rattle.pat_derivation_text_laws.proofs.Sound.{cert_sound, found_there}
use Rattle.pat_checkpoint_spec.specs.text.Outside.{Outside, cut_outside}
use Rattle.pat_checkpoint_spec.specs.text.ValueText.{values_text, env_text, is_value}
use Rattle.pat_checkpoint_spec.specs.text.ValueReading.{read_value, read_values, read_env}
use Rattle.pat_checkpoint_spec.specs.text.Lines.{MailboxLine, FrameLine, ThreadLine, Lines}
use Rattle.pat_checkpoint_spec.specs.text.CheckpointText.{cert_end, next_text, mailbox_text, interface_in, tag_name, message_text, control_text, thread_text, name_text, frame_text}
use Rattle.pat_checkpoint_spec.specs.text.LineReading.{read_cert_end, with_cert, lines_with, next_messages, next_mailboxes, next_threads, read_next, mailbox_with, mailbox_named, mailbox_of, read_mailbox, tag_number, tag_of, message_with, message_tagged, message_in, message_of, read_message, node_number, read_node, bound_in, read_bound, running_at, running_of, read_running, returned_of, read_returned, control_by, read_control, thread_with, thread_of, read_thread, read_name, frame_at, frame_in, frame_of, read_frame}
use Rattle.pat_checkpoint_laws.specs.text.Readable.{is_env, is_cert, is_node, is_mailbox_line, has_tag, is_message_line, is_control, is_name, is_frame_line, is_thread_line}
use Rattle.pat_checkpoint_laws.proofs.OutsideCuts.{cut_is as cut_outside_is}
use Rattle.pat_checkpoint_laws.proofs.ValuesRead.{value_spelled, values_spelled, env_spelled}

-- ---- certificates

cert_end_spelled : (bytes : List ℕ) (c : Option Cert) → read_cert_end bytes ≡ Some c → (bytes ≡ cert_end c) × (is_cert c ≡ true)
cert_end_spelled [] c e = let same : None ≡ c = cc in subst (λ c. ([] ≡ cert_end c) × (is_cert c ≡ true)) same (refl, refl)
cert_end_spelled (b ∷ bs) c e =
    let m = made_next (λ more. option_map Some (read_cert more)) (behind (32 ∷ []) (b ∷ bs)) c e in
    let n = made Some (read_cert m.from) c m.is in
    subst (λ c. (b ∷ bs ≡ cert_end c) × (is_cert c ≡ true)) n.is
    (behind_is [] (32 ∷ []) (b ∷ bs) m.from m.there ∙ ap (λ l. 32 ∷ l) (cert_is m.from n.from n.there), cert_sound m.from n.from n.there)

with_cert_spelled : (bytes : List ℕ) (o : Option (List ℕ × List ℕ)) → ((r : List ℕ × List ℕ) → o ≡ Some r → bytes ≡ r.0 ++ 32 ∷ r.1) → (x : List ℕ × Option Cert) → with_cert bytes o ≡ Some x → (bytes ≡ x.0 ++ cert_end x.1) × (is_cert x.1 ≡ true)
with_cert_spelled bytes None cuts x e =
    let own : List ℕ × Option Cert = (bytes, None) in
    let same : own ≡ x = cc in
    subst (λ x. (bytes ≡ x.0 ++ cert_end x.1) × (is_cert x.1 ≡ true)) same (sym (append-nil bytes), refl)
with_cert_spelled bytes (Some r) cuts x e =
    let m = made (λ c. (r.0, Some c)) (read_cert r.1) x e in
    subst (λ x. (bytes ≡ x.0 ++ cert_end x.1) × (is_cert x.1 ≡ true)) m.is
    (cuts r refl ∙ ap (λ l. r.0 ++ 32 ∷ l) (cert_is r.1 m.from m.there), cert_sound r.1 m.from m.there)

-- what stands before a space is a number's text
ahead : (bytes : List ℕ) (r : List ℕ × List ℕ) (n : ℕ) (more : List ℕ) → cut 32 bytes ≡ Some r → read_number r.0 ≡ Some n → r.1 ≡ more → bytes ≡ decimal n ++ 32 ∷ more
ahead bytes r n more c own rest = cut_is 32 bytes r c ∙ ap (λ x. x ++ 32 ∷ r.1) (number_spelled r.0 n own).0 ∙ ap (λ x. decimal n ++ 32 ∷ x) rest

-- ---- the next numbers

-- the next numbers alone are read, and each is one that a text may have
pub record NextIs (bytes : List ℕ) (x : Lines) : Type 0 where
  pub text : bytes ≡ next_text x
  pub alone : lines_with x.next_thread x.next_mailbox x.next_message ≡ x
  pub next_thread : is_number x.next_thread ≡ true
  pub next_mailbox : is_number x.next_mailbox ≡ true
  pub next_message : is_number x.next_message ≡ true

pub next_spelled : (bytes : List ℕ) (x : Lines) → read_next bytes ≡ Some x → NextIs bytes x
next_spelled bytes x e =
    let a = made_next (λ more. option_and_then next_threads (cut 32 more)) (behind (codes "next ") bytes) x e in
    let b = made_next next_threads (cut 32 a.from) x a.is in
    let t = made_next (λ t. option_and_then (next_mailboxes t) (cut 32 b.from.1)) (read_number b.from.0) x b.is in
    let c = made_next (next_mailboxes t.from) (cut 32 b.from.1) x t.is in
    let n = made_next (λ n. next_messages t.from n c.from.1) (read_number c.from.0) x c.is in
    let m = made (lines_with t.from n.from) (read_number c.from.1) x n.is in
    let last = number_spelled c.from.1 m.from m.there in
    subst (NextIs bytes) m.is (record {
      text = behind_is [] (codes "next ") bytes a.from a.there ∙ ap (λ l. codes "next " ++ l) (ahead a.from b.from t.from (decimal n.from ++ 32 ∷ decimal m.from) b.there t.there (ahead b.from.1 c.from n.from (decimal m.from) c.there n.there last.0));
      alone = refl;
      next_thread = (number_spelled b.from.0 t.from t.there).1;
      next_mailbox = (number_spelled c.from.0 n.from n.there).1;
      next_message = last.1;
    })

-- ---- nodes and the values of variables

node_spelled : (p : Program) (bytes : List ℕ) (n : ℕ) → read_node p bytes ≡ Some n → (read_number bytes ≡ Some n) × (is_node p n ≡ true)
node_spelled p bytes n e =
    let m = made_next (node_number p) (read_number bytes) n e in
    let k = taken (nat_lt m.from (length p.nodes)) (Some m.from) n m.is in
    let same : m.from ≡ n = cc in
    subst (λ n. (read_number bytes ≡ Some n) × (is_node p n ≡ true)) same (m.there, and_from (nat_lt m.from (length p.nodes)) (is_number m.from) k.0 (number_spelled bytes m.from m.there).1)

bound_spelled : (bytes : List ℕ) (x : Env × Option Cert) → read_bound bytes ≡ Some x → (bytes ≡ 123 ∷ (env_text x.0 ++ 125 ∷ cert_end x.1)) × (is_env x.0 ≡ true) × (is_cert x.1 ≡ true)
bound_spelled bytes x e =
    let a = made_next (λ more. option_and_then bound_in (cut_outside 125 more)) (behind (123 ∷ []) bytes) x e in
    let b = made_next bound_in (cut_outside 125 a.from) x a.is in
    let r = b.from in
    let c = made_next (λ env. option_map (λ c. (env, c)) (read_cert_end r.1)) (read_env r.0) x b.is in
    let d = made (λ k. (c.from, k)) (read_cert_end r.1) x c.is in
    let env = env_spelled r.0 c.from c.there in
    let cert = cert_end_spelled r.1 d.from d.there in
    subst (λ x. (bytes ≡ 123 ∷ (env_text x.0 ++ 125 ∷ cert_end x.1)) × (is_env x.0 ≡ true) × (is_cert x.1 ≡ true)) d.is
    (behind_is [] (123 ∷ []) bytes a.from a.there ∙ ap (λ l. 123 ∷ l) (cut_outside_is Outside 125 a.from r b.there ∙ ap (λ l. l ++ 125 ∷ r.1) env.0 ∙ ap (λ l. env_text c.from ++ 125 ∷ l) cert.0), env.1, cert.1)

-- ---- threads

-- the bytes are a control's and a certificate's, and a reader takes both
pub record ControlIs (p : Program) (bytes : List ℕ) (x : Control × Option Cert) : Type 0 where
  pub text : bytes ≡ control_text x.0 ++ cert_end x.1
  pub control : is_control p x.0 ≡ true
  pub cert : is_cert x.1 ≡ true

running_spelled : (p : Program) (bytes : List ℕ) (x : Control × Option Cert) → read_running p bytes ≡ Some x → ControlIs p (codes "node " ++ bytes) x
running_spelled p bytes x e =
    let a = made_next (running_of p) (cut 32 bytes) x e in
    let r = a.from in
    let b = made_next (λ n. option_map (running_at n) (read_bound r.1)) (read_node p r.0) x a.is in
    let c = made (running_at b.from) (read_bound r.1) x b.is in
    let node = node_spelled p r.0 b.from b.there in
    let k = bound_spelled r.1 c.from c.there in
    let D = decimal b.from in
    let E = env_text c.from.0 in
    let C = cert_end c.from.1 in
    let whole : codes "node " ++ (D ++ 32 ∷ 123 ∷ (E ++ 125 ∷ C)) ≡ (codes "node " ++ (D ++ 32 ∷ 123 ∷ (E ++ 125 ∷ []))) ++ C =
    ap (λ w. codes "node " ++ w) (sym (append_assoc D (32 ∷ 123 ∷ (E ++ 125 ∷ [])) C ∙ ap (λ w. D ++ 32 ∷ 123 ∷ w) (append_assoc E (125 ∷ []) C))) in
    subst (ControlIs p (codes "node " ++ bytes)) c.is (record {
      text = ap (λ l. codes "node " ++ l) (ahead bytes r b.from (123 ∷ (E ++ 125 ∷ C)) a.there node.0 k.0) ∙ whole;
      control = and_from (is_node p b.from) (is_env c.from.0) node.1 k.1;
      cert = k.2;
    })

returned_spelled : (p : Program) (bytes : List ℕ) (x : Control × Option Cert) → read_returned bytes ≡ Some x → ControlIs p (codes "value " ++ bytes) x
returned_spelled p bytes x e =
    let a = made_next returned_of (with_cert bytes (cut_outside 32 bytes)) x e in
    let b = made (λ v. (Returned v, a.from.1)) (read_value a.from.0) x a.is in
    let k = with_cert_spelled bytes (cut_outside 32 bytes) (cut_outside_is Outside 32 bytes) a.from a.there in
    let v = value_spelled a.from.0 b.from b.there in
    subst (ControlIs p (codes "value " ++ bytes)) b.is (record {
      text = ap (λ l. codes "value " ++ l) (k.0 ∙ ap (λ l. l ++ cert_end a.from.1) v.0);
      control = v.1;
      cert = k.1;
    })

control_spelled : (p : Program) (bytes : List ℕ) (x : Control × Option Cert) → read_control p bytes ≡ Some x → ControlIs p bytes x
control_spelled p bytes x e = by (behind (codes "node ") bytes) refl e
  where
    by : (o : Option (List ℕ)) → behind (codes "node ") bytes ≡ o → control_by p bytes o ≡ Some x → ControlIs p bytes x
    by (Some more) b e = subst (λ l. ControlIs p l x) (sym (behind_is [] (codes "node ") bytes more b)) (running_spelled p more x e)
    by None b e =
        let m = made_next read_returned (behind (codes "value ") bytes) x e in
        subst (λ l. ControlIs p l x) (sym (behind_is [] (codes "value ") bytes m.from m.there)) (returned_spelled p m.from x m.is)

-- a thread has no frame yet
pub record ThreadIs (p : Program) (bytes : List ℕ) (t : ThreadLine) : Type 0 where
  pub text : codes "thread " ++ bytes ≡ thread_text t
  pub alone : t.frames ≡ []
  pub taken : is_thread_line p t ≡ true

pub thread_spelled : (p : Program) (bytes : List ℕ) (t : ThreadLine) → read_thread p bytes ≡ Some t → ThreadIs p bytes t
thread_spelled p bytes t e =
    let a = made_next (thread_of p) (cut 32 bytes) t e in
    let r = a.from in
    let b = made_next (λ n. option_map (thread_with n) (read_control p r.1)) (read_number r.0) t a.is in
    let c = made (thread_with b.from) (read_control p r.1) t b.is in
    let k = control_spelled p r.1 c.from c.there in
    subst (ThreadIs p bytes) c.is (record {
      text = ap (λ l. codes "thread " ++ l) (ahead bytes r b.from (control_text c.from.0 ++ cert_end c.from.1) a.there b.there k.text);
      alone = refl;
      taken = and_from (is_number b.from) (is_control p c.from.0 && (is_cert c.from.1 && true)) (number_spelled r.0 b.from b.there).1 (and_from (is_control p c.from.0) (is_cert c.from.1 && true) k.control (and_from (is_cert c.from.1) true k.cert refl));
    })

-- ---- frames

name_spelled : (bytes : List ℕ) (x : Option ℕ) → read_name bytes ≡ Some x → (bytes ≡ name_text x) × (is_name x ≡ true)
name_spelled bytes x e = by (bytes_eq bytes (codes "-")) refl e
  where
    by : (t : Bool) → bytes_eq bytes (codes "-") ≡ t → (if t then Some None else option_and_then (λ more. option_map Some (read_number more)) (behind (118 ∷ []) bytes)) ≡ Some x → (bytes ≡ name_text x) × (is_name x ≡ true)
    by true t e = let same : None ≡ x = cc in subst (λ x. (bytes ≡ name_text x) × (is_name x ≡ true)) same ((bytes_eq-Decides bytes (codes "-")).0 t, refl)
    by false t e =
        let m = made_next (λ more. option_map Some (read_number more)) (behind (118 ∷ []) bytes) x e in
        let n = made Some (read_number m.from) x m.is in
        let k = number_spelled m.from n.from n.there in
        subst (λ x. (bytes ≡ name_text x) × (is_name x ≡ true)) n.is (behind_is [] (118 ∷ []) bytes m.from m.there ∙ ap (λ l. 118 ∷ l) k.0, k.1)

pub frame_spelled : (p : Program) (bytes : List ℕ) (f : FrameLine) → read_frame p bytes ≡ Some f → (codes "frame " ++ bytes ≡ frame_text f) × (is_frame_line p f ≡ true)
frame_spelled p bytes f e =
    let a = made_next (frame_of p) (cut 32 bytes) f e in
    let r = a.from in
    let x = made_next (λ x. option_and_then (frame_in p x) (cut 32 r.1)) (read_name r.0) f a.is in
    let b = made_next (frame_in p x.from) (cut 32 r.1) f x.is in
    let s = b.from in
    let n = made_next (λ n. option_map (frame_at x.from n) (read_bound s.1)) (read_node p s.0) f b.is in
    let c = made (frame_at x.from n.from) (read_bound s.1) f n.is in
    let name = name_spelled r.0 x.from x.there in
    let node = node_spelled p s.0 n.from n.there in
    let k = bound_spelled s.1 c.from c.there in
    let B = 123 ∷ (env_text c.from.0 ++ 125 ∷ cert_end c.from.1) in
    subst (λ f. (codes "frame " ++ bytes ≡ frame_text f) × (is_frame_line p f ≡ true)) c.is (
      ap (λ l. codes "frame " ++ l) (cut_is 32 bytes r a.there ∙ ap (λ l. l ++ 32 ∷ r.1) name.0 ∙ ap (λ l. name_text x.from ++ 32 ∷ l) (ahead r.1 s n.from B b.there node.0 k.0)),
      and_from (is_name x.from) (is_node p n.from && (is_env c.from.0 && is_cert c.from.1)) name.1 (and_from (is_node p n.from) (is_env c.from.0 && is_cert c.from.1) node.1 (and_from (is_env c.from.0) (is_cert c.from.1) k.1 k.2)),
    )

-- ---- mailboxes and messages

pub mailbox_spelled : (p : Program) (bytes : List ℕ) (m : MailboxLine) → read_mailbox p bytes ≡ Some m → (codes "mailbox " ++ bytes ≡ mailbox_text p m) × (is_mailbox_line p m ≡ true)
mailbox_spelled p bytes m e =
    let a = made_next (mailbox_of p) (cut 32 bytes) m e in
    let r = a.from in
    let n = made_next (λ n. option_and_then (mailbox_named p n) (with_cert r.1 (cut 32 r.1))) (read_number r.0) m a.is in
    let b = made_next (mailbox_named p n.from) (with_cert r.1 (cut 32 r.1)) m n.is in
    let f = made (mailbox_with n.from b.from.1) (found b.from.0 p.interfaces) m b.is in
    let k = with_cert_spelled r.1 (cut 32 r.1) (cut_is 32 r.1) b.from b.there in
    let name = found_is b.from.0 p.interfaces f.from f.there in
    let here = found_there b.from.0 p.interfaces f.from f.there in
    let i = f.from.0 in
    let C = cert_end b.from.1 in
    subst (λ m. (codes "mailbox " ++ bytes ≡ mailbox_text p m) × (is_mailbox_line p m ≡ true)) f.is (
      ap (λ l. codes "mailbox " ++ l) (ahead bytes r n.from (interface_name p i ++ C) a.there n.there (k.0 ∙ ap (λ l. l ++ C) (sym name.0))),
      and_from (is_number n.from) (nat_lt i (length p.interfaces) && is_cert b.from.1) (number_spelled r.0 n.from n.there).1 (and_from (nat_lt i (length p.interfaces)) (is_cert b.from.1) (lt-ltb i (length p.interfaces) here) k.1),
    )

place_is : (x : List ℕ) (ns : List (List ℕ)) (k : ℕ) → place_of x ns ≡ Some k → (k < length ns) × (slice_index_or ns k [] ≡ x)
place_is x [] k e = absurd cc
place_is x (n ∷ ns) k e = by (bytes_eq n x) refl e (λ j f. place_is x ns j f)
  where
    by : (b : Bool) → bytes_eq n x ≡ b → (if b then Some zero else option_map suc (place_of x ns)) ≡ Some k → ((j : ℕ) → place_of x ns ≡ Some j → (j < length ns) × (slice_index_or ns j [] ≡ x)) → (k < length (n ∷ ns)) × (slice_index_or (n ∷ ns) k [] ≡ x)
    by true t e deeper = let z : zero ≡ k = cc in subst (λ k. (k < length (n ∷ ns)) × (slice_index_or (n ∷ ns) k [] ≡ x)) z (omega arith, (bytes_eq-Decides n x).0 t)
    by false t e deeper =
        let m = made suc (place_of x ns) k e in
        let d = deeper m.from m.there in
        subst (λ k. (k < length (n ∷ ns)) × (slice_index_or (n ∷ ns) k [] ≡ x)) m.is (omega (arith, d.0), d.1)

tag_spelled : (p : Program) (name : List ℕ) (o : Option ℕ) (t : ℕ) → option_and_then (tag_of p name) o ≡ Some t → (name ≡ tag_name p o t) × (has_tag p o t ≡ true)
tag_spelled p name None t e = absurd cc
tag_spelled p name (Some i) t e =
    let m = made_next tag_number (place_of name (tag_names p i)) t e in
    let k = taken (nat_lt m.from 256) (Some m.from) t m.is in
    let same : m.from ≡ t = cc in
    let here = place_is name (tag_names p i) m.from m.there in
    subst (λ t. (name ≡ tag_name p (Some i) t) × (has_tag p (Some i) t ≡ true)) same
    (sym here.1, and_from (nat_lt m.from (length (tag_names p i))) (nat_lt m.from 256) (lt-ltb m.from (length (tag_names p i)) here.0) k.0)

abbrev message_at : (n b t : ℕ) → List Value → Message
message_at n b t vs = record { number = n; mailbox = b; tag = t; values = vs }

pub message_spelled : (p : Program) (ms : List MailboxLine) (bytes : List ℕ) (m : Message) → read_message p ms bytes ≡ Some m → (codes "message " ++ bytes ≡ message_text p ms m) × (is_message_line p ms m ≡ true)
message_spelled p ms bytes m e =
    let a = made_next (message_of p ms) (cut 32 bytes) m e in
    let r = a.from in
    let n = made_next (λ n. option_and_then (message_in p ms n) (cut 32 r.1)) (read_number r.0) m a.is in
    let c = made_next (message_in p ms n.from) (cut 32 r.1) m n.is in
    let s = c.from in
    let b = made_next (λ b. option_and_then (message_tagged p ms n.from b) (cut 40 s.1)) (read_number s.0) m c.is in
    let d = made_next (message_tagged p ms n.from b.from) (cut 40 s.1) m b.is in
    let q = d.from in
    let o = interface_in ms b.from in
    let t = made_next (λ t. message_with n.from b.from t q.1) (option_and_then (tag_of p q.0) o) m d.is in
    let v = made (message_at n.from b.from t.from) (option_and_then read_values (before (41 ∷ []) q.1)) m t.is in
    let w = made_next read_values (before (41 ∷ []) q.1) v.from v.there in
    let tag = tag_spelled p q.0 o t.from t.there in
    let values = values_spelled w.from v.from w.is in
    let X = tag_name p o t.from in
    let V = values_text v.from in
    subst (λ m. (codes "message " ++ bytes ≡ message_text p ms m) × (is_message_line p ms m ≡ true)) v.is (
      ap (λ l. codes "message " ++ l) (ahead bytes r n.from (decimal b.from ++ 32 ∷ (X ++ 40 ∷ (V ++ 41 ∷ []))) a.there n.there
          (ahead r.1 s b.from (X ++ 40 ∷ (V ++ 41 ∷ [])) c.there b.there (cut_is 40 s.1 q d.there ∙ ap (λ l. l ++ 40 ∷ q.1) tag.0 ∙ ap (λ l. X ++ 40 ∷ l) (before_is (41 ∷ []) q.1 w.from w.there ∙ ap (λ l. l ++ 41 ∷ []) values.0)))),
      and_from (is_number n.from) (is_number b.from && (has_tag p o t.from && list_all is_value v.from)) (number_spelled r.0 n.from n.there).1
          (and_from (is_number b.from) (has_tag p o t.from && list_all is_value v.from) (number_spelled s.0 b.from b.there).1 (and_from (has_tag p o t.from) (list_all is_value v.from) tag.1 values.1)),
    )
