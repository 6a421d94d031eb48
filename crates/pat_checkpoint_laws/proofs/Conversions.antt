-- The lines of a checkpoint make it again, and those that a checkpoint is made of are its lines.
use Rattle.std.proofs.Common.{◌≡◌, ℕ, List, [], ◌∷◌, length, map, refl, sym, ap, ◌∙◌, arith}
use Rattle.std.specs.Prelude.{Option}
use Rattle.pat_semantics_spec.specs.Configs.{Frame, Thread}
use Rattle.pat_inclusion_spec.specs.Certificates.{Cert}
use Rattle.pat_checkpoint_spec.specs.Checkpoints.{PartCerts, Checkpoint, PartsAlign, IsAligned}
use Rattle.pat_checkpoint_spec.specs.text.Lines.{MailboxLine, FrameLine, ThreadLine, Lines, thread_of, certs_of, checkpoint_of, mailbox_lines, frame_lines, thread_lines, lines_of}

-- ---- from lines

mailboxes_again : (ms : List MailboxLine) → mailbox_lines (map (λ m. m.number) ms) (map (λ m. m.interface) ms) (map (λ m. m.cert) ms) ≡ ms
mailboxes_again [] = refl
mailboxes_again (m ∷ ms) = ap (λ l. m ∷ l) (mailboxes_again ms)

frames_again : (fs : List FrameLine) → frame_lines (map (λ f. f.frame) fs) (map (λ f. f.cert) fs) ≡ fs
frames_again [] = refl
frames_again (f ∷ fs) = ap (λ l. f ∷ l) (frames_again fs)

threads_again : (ts : List ThreadLine) → thread_lines (map thread_of ts) (map certs_of ts) ≡ ts
threads_again [] = refl
threads_again (t ∷ ts) = ap (λ fs. record t { frames = fs } ∷ thread_lines (map thread_of ts) (map certs_of ts)) (frames_again t.frames) ∙ ap (λ l. t ∷ l) (threads_again ts)

pub lines_again : (x : Lines) → lines_of (checkpoint_of x) ≡ x
lines_again x =
    let ms = mailbox_lines (map (λ m. m.number) x.mailboxes) (map (λ m. m.interface) x.mailboxes) (map (λ m. m.cert) x.mailboxes) in
    ap (λ ts. record x { mailboxes = ms; threads = ts }) (threads_again x.threads) ∙ ap (λ l. record x { mailboxes = l }) (mailboxes_again x.mailboxes)

-- a place for each
same_length : {A B X : Type 0} (f : X → A) (g : X → B) (xs : List X) → length (map f xs) ≡ length (map g xs)
same_length f g [] = refl
same_length f g (x ∷ xs) = let more = same_length f g xs in omega (arith, more)

parts_align : (ts : List ThreadLine) → PartsAlign (map thread_of ts) (map certs_of ts)
parts_align [] = tt
parts_align (t ∷ ts) = (same_length (λ f. f.cert) (λ f. f.frame) t.frames, parts_align ts)

pub made_is_aligned : (x : Lines) → IsAligned (checkpoint_of x)
made_is_aligned x = record {
  interfaces = same_length (λ m. m.interface) (λ m. m.number) x.mailboxes;
  mailboxes = same_length (λ m. m.cert) (λ m. m.number) x.mailboxes;
  parts = parts_align x.threads;
  silent = refl;
}

-- ---- from checkpoints

pub record Mailboxes (ns is : List ℕ) (cs : List (Option Cert)) : Type 0 where
  pub numbers : map (λ m. m.number) (mailbox_lines ns is cs) ≡ ns
  pub interfaces : map (λ m. m.interface) (mailbox_lines ns is cs) ≡ is
  pub certs : map (λ m. m.cert) (mailbox_lines ns is cs) ≡ cs

pub mailboxes_made : (ns is : List ℕ) (cs : List (Option Cert)) → length is ≡ length ns → length cs ≡ length ns → Mailboxes ns is cs
mailboxes_made [] [] [] a b = record { numbers = refl; interfaces = refl; certs = refl }
mailboxes_made [] [] (c ∷ cs) a b = absurd (omega (arith, b))
mailboxes_made [] (i ∷ is) cs a b = absurd (omega (arith, a))
mailboxes_made (n ∷ ns) [] cs a b = absurd (omega (arith, a))
mailboxes_made (n ∷ ns) (i ∷ is) [] a b = absurd (omega (arith, b))
mailboxes_made (n ∷ ns) (i ∷ is) (c ∷ cs) a b =
    let more = mailboxes_made ns is cs (omega (arith, a)) (omega (arith, b)) in
    record { numbers = ap (λ l. n ∷ l) more.numbers; interfaces = ap (λ l. i ∷ l) more.interfaces; certs = ap (λ l. c ∷ l) more.certs }

frames_made : (fs : List Frame) (cs : List (Option Cert)) → length cs ≡ length fs → (map (λ f. f.frame) (frame_lines fs cs) ≡ fs) × (map (λ f. f.cert) (frame_lines fs cs) ≡ cs)
frames_made [] [] a = (refl, refl)
frames_made [] (c ∷ cs) a = absurd (omega (arith, a))
frames_made (f ∷ fs) [] a = absurd (omega (arith, a))
frames_made (f ∷ fs) (c ∷ cs) a =
    let more = frames_made fs cs (omega (arith, a)) in
    (ap (λ l. f ∷ l) more.0, ap (λ l. c ∷ l) more.1)

threads_made : (es : List (ℕ × Thread)) (ks : List PartCerts) → PartsAlign es ks → (map thread_of (thread_lines es ks) ≡ es) × (map certs_of (thread_lines es ks) ≡ ks)
threads_made [] [] a = (refl, refl)
threads_made [] (k ∷ ks) a = absurd a
threads_made (e ∷ es) [] a = absurd a
threads_made (e ∷ es) (k ∷ ks) a =
    let f = frames_made e.1.frames k.frames a.0 in
    let more = threads_made es ks a.1 in (
      ap (λ fs. (e.0, record { control = e.1.control; frames = fs }) ∷ map thread_of (thread_lines es ks)) f.0 ∙ ap (λ l. e ∷ l) more.0,
      ap (λ fs. record { control = k.control; frames = fs } ∷ map certs_of (thread_lines es ks)) f.1 ∙ ap (λ l. k ∷ l) more.1,
    )

pub checkpoint_again : (x : Checkpoint) → IsAligned x → checkpoint_of (lines_of x) ≡ x
checkpoint_again x a =
    let c = x.config in
    let ms = mailbox_lines c.live x.interfaces x.mailbox_certs in
    let ts = thread_lines c.threads x.part_certs in
    let m = mailboxes_made c.live x.interfaces x.mailbox_certs a.interfaces a.mailboxes in
    let t = threads_made c.threads x.part_certs a.parts in
    let silent : [] ≡ c.printed = sym a.silent in
    ap (λ l. record { config = record c { threads = l; live = map (λ m. m.number) ms; printed = [] }; interfaces = map (λ m. m.interface) ms; mailbox_certs = map (λ m. m.cert) ms; part_certs = map certs_of ts }) t.0
    ∙ ap (λ l. record { config = record c { live = l; printed = [] }; interfaces = map (λ m. m.interface) ms; mailbox_certs = map (λ m. m.cert) ms; part_certs = map certs_of ts }) m.numbers
    ∙ ap (λ l. record { config = record c { printed = l }; interfaces = map (λ m. m.interface) ms; mailbox_certs = map (λ m. m.cert) ms; part_certs = map certs_of ts }) silent
    ∙ ap (λ l. record { config = c; interfaces = l; mailbox_certs = map (λ m. m.cert) ms; part_certs = map certs_of ts }) m.interfaces
    ∙ ap (λ l. record { config = c; interfaces = x.interfaces; mailbox_certs = l; part_certs = map certs_of ts }) m.certs
    ∙ ap (λ l. record x { part_certs = l }) t.1
