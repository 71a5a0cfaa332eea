-- Why commands end as they do, step by step.
use Rattle.std.proofs.Common.{◌≡◌, ◌≢◌, ◌⊎◌, ℕ, ◌≤◌, Bool, true, false, refl, sym, ap, subst, inl, inr, arith}
use Rattle.std.specs.Prelude.{Result, Err}
use Rattle.node_store.specs.Imported.{import_failed}
use Rattle.node_store.specs.Mounted.{has_failed}
use Rattle.node_store.specs.declared.error.ImportError.{ImportError}
use Rattle.node_store.specs.declared.error.ImportError.TheVariants as import
use Rattle.node_store.specs.declared.error.MountError.{MountError}
use Rattle.node_store.specs.declared.error.MountError.TheVariants as mount
use Rattle.rm_base.specs.Count.{Rose}
use Rattle.rm_disk.specs.Cause.{HasCause}
use Rattle.rm_node.specs.Ends.{error_end, is_broken, is_disk}
use Rattle.rm_node.specs.declared.error.NodeError.{NodeError}
use Rattle.rm_node.specs.declared.error.NodeError.TheVariants as node
use Rattle.rm_host.specs.Ends.{Faults, HasReason, Reason, is_disk_end, is_disk_fault, is_link_end, is_link_fault}
use Rattle.rm_host.specs.Ends.{import_end, is_of_call, is_outer, is_refused, mount_end, node_end}
use Rattle.rm_host.specs.declared.end.End.{End}
use Rattle.rm_host.specs.declared.end.End.TheVariants as end
use Rattle.rm_host.specs.declared.end.End.TheVariants.{Memory}

-- ---- counts that rose

pub rose-before : (a b c : ℕ) → a ≤ b → Rose b c → Rose a c
rose-before a b c h (inl r) = inl (omega (arith, h, r))
rose-before a b c h (inr r) = inr r

pub rose-after : (a b c : ℕ) → Rose a b → b ≤ c → Rose a c
rose-after a b c (inl r) h = inl (omega (arith, h, r))
rose-after a b c (inr r) h = inr (omega (arith, h, r))

-- ---- one step after another

-- a step after one that went well
pub then : (f g h : Faults) (broke lost ok : Bool) → Reason f g false false true → Reason g h broke lost ok
    → Reason f h broke lost ok
then f g h broke lost ok first after = record {
  disk = subst (λ n. HasCause n h.disk broke) first.disk.cause after.disk;
  link = λ e. rose-before f.link g.link h.link (first.later refl) (after.link e);
  later = λ e. omega (arith, first.later refl, after.later e);
}

-- another end than a fault, after a step that went well
pub ends : {T : Type 0} (f g : Faults) (r : Result T End) → Reason f g false false true → is_disk_fault r ≡ false
    → is_link_fault r ≡ false → HasReason f g r
ends f g r first disk link = record {
  disk = subst (λ b. HasCause f.disk g.disk b) (sym disk) first.disk;
  link = λ e. absurd (cc (e, link));
  later = λ e. first.later refl;
}

-- want of memory, after a step that went well
pub wants : {T : Type 0} (f g : Faults) (r : Result T End) → r ≡ Err Memory → Reason f g false false true
    → HasReason f g r
wants f g r same first = ends f g r first (ap is_disk_fault same) (ap is_link_fault same)

-- a fault of the link, where its count rose in a step that went well
pub lost : (f g : Faults) → Reason f g false false true → Rose f.link g.link → Reason f g false true false
lost f g first rose = record { disk = first.disk; link = λ e. rose; later = λ e. absurd cc }

-- a call of the link alone
pub links : (disk old new : ℕ) → old ≤ new
    → Reason (record { disk = disk; link = old }) (record { disk = disk; link = new }) false false true
links disk old new h = record {
  disk = record { later = omega arith; cause = refl };
  link = λ e. absurd cc;
  later = λ e. h;
}

-- and it failed
pub unlinked : (disk old new : ℕ) → Rose old new
    → Reason (record { disk = disk; link = old }) (record { disk = disk; link = new }) false true false
unlinked disk old new rose = record {
  disk = record { later = omega arith; cause = refl };
  link = λ e. rose;
  later = λ e. absurd cc;
}

-- the error of a step that is handed on, after one that went well
pub hands : {T : Type 0} (f g h : Faults) (e : End) (r : Result T End) → r ≡ Err e → Reason f g false false true
    → Reason g h (is_disk_end e) (is_link_end e) false → HasReason f h r
hands f g h e r same first after =
    subst (λ x. HasReason f h x) (sym same)
    (then f g h (is_disk_end e) (is_link_end e) false first after)

-- ---- a call of the node failed

-- as a call of a node that is up does
pub call-fails : (f g : Faults) (e : NodeError) → e ≢ node.Down
    → HasCause f.disk g.disk (is_disk {T = Unit {0}} (Err e))
    → Reason f g (is_disk_end (node_end e)) (is_link_end (node_end e)) false
call-fails f g node.Memory up cause = record { disk = cause; link = λ h. absurd cc; later = λ h. absurd cc }
call-fails f g node.Disk up cause = record { disk = cause; link = λ h. absurd cc; later = λ h. absurd cc }
call-fails f g node.Down up cause = absurd (up refl)
call-fails f g (node.Refused why) up cause = record { disk = cause; link = λ h. absurd cc; later = λ h. absurd cc }

pub call-ends : {T : Type 0} (f g : Faults) (e : NodeError) (r : Result T End) → r ≡ Err (node_end e)
    → e ≢ node.Down → HasCause f.disk g.disk (is_disk {T = Unit {0}} (Err e)) → HasReason f g r
call-ends f g e r same up cause = subst (λ x. HasReason f g x) (sym same) (call-fails f g e up cause)

pub call-inner : (e : NodeError) → is_outer {T = Unit {0}} (Err (node_end e)) ≡ false
call-inner node.Memory = refl
call-inner e = refl

-- a call ends so
pub call-of : (e : NodeError) → is_of_call (node_end e) ≡ true
call-of node.Memory = refl
call-of e = refl

-- it broke where it failed by the disk
pub broke-by : (e : NodeError) → is_broken (error_end e) ≡ is_disk {T = Unit {0}} (Err e)
broke-by node.Memory = refl
broke-by e = refl

-- a node that is made is not down
pub made-awake : (e : NodeError) → (e ≡ node.Memory) ⊎ (e ≡ node.Disk) → e ≢ node.Down
made-awake e (inl wants) down = absurd cc
made-awake e (inr fails) down = absurd cc

-- as a mount does
pub mount-fails : (f g : Faults) (e : MountError) → HasCause f.disk g.disk (has_failed {T = Unit {0}} (Err e))
    → Reason f g (is_disk_end (mount_end e)) (is_link_end (mount_end e)) false
mount-fails f g mount.Memory cause = record { disk = cause; link = λ h. absurd cc; later = λ h. absurd cc }
mount-fails f g mount.Disk cause = record { disk = cause; link = λ h. absurd cc; later = λ h. absurd cc }
mount-fails f g mount.NotAJournal cause = record { disk = cause; link = λ h. absurd cc; later = λ h. absurd cc }

-- where no node was found, or memory was wanting, or the disk failed
pub mount-which : (e : MountError)
    → (mount_end e ≡ end.Memory) ⊎ ((mount_end e ≡ end.DiskFault) ⊎ (mount_end e ≡ end.NotAJournal))
mount-which mount.Memory = inl refl
mount-which mount.Disk = inr (inl refl)
mount-which mount.NotAJournal = inr (inr refl)

pub mount-none : (e : MountError) → mount_end e ≡ end.NotAJournal → e ≡ mount.NotAJournal
mount-none mount.NotAJournal none = refl
mount-none e none = absurd cc

-- it is no refusal
pub mount-unrefused : (e : MountError) → is_refused {T = Unit {0}} (Err (mount_end e)) ≡ false
mount-unrefused mount.Memory = refl
mount-unrefused e = refl

pub mount-inner : (e : MountError) → is_outer {T = Unit {0}} (Err (mount_end e)) ≡ false
mount-inner mount.Memory = refl
mount-inner e = refl

-- as an import does
pub import-fails : (f g : Faults) (e : ImportError) → HasCause f.disk g.disk (import_failed {T = Unit {0}} (Err e))
    → Reason f g (is_disk_end (import_end e)) (is_link_end (import_end e)) false
import-fails f g import.Memory cause = record { disk = cause; link = λ h. absurd cc; later = λ h. absurd cc }
import-fails f g import.Disk cause = record { disk = cause; link = λ h. absurd cc; later = λ h. absurd cc }
import-fails f g import.NotAJournal cause = record { disk = cause; link = λ h. absurd cc; later = λ h. absurd cc }
import-fails f g (import.Full end needed) cause =
    record { disk = cause; link = λ h. absurd cc; later = λ h. absurd cc }

pub import-inner : (e : ImportError) → is_outer {T = Unit {0}} (Err (import_end e)) ≡ false
import-inner import.Memory = refl
import-inner e = refl
