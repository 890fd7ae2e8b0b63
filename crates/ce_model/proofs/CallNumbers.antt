-- The constants of the code are the numbers of the kernel's calls.
use Rattle.std.proofs.Common.{◌≡◌, [], ◌∷◌, map, Some, refl}
use Rattle.ce_model.specs.declared.calls.TheConstants.{XMALLOC, XFREE, XLENGTH, XSEND, XMSEND, XRECV, XRECVB, SPAWN, CKILL, MYNODE, MYPID, NNODES, EXIT, NOTE}
use Rattle.ce_model.specs.Kernel.{kernel_calls, kernel_call}

pub call_numbers : map kernel_call (XMALLOC ∷ XFREE ∷ XLENGTH ∷ XSEND ∷ XMSEND ∷ XRECV ∷ XRECVB ∷ SPAWN ∷ CKILL ∷ MYNODE ∷ MYPID ∷ NNODES ∷ EXIT ∷ NOTE ∷ []) ≡ map Some kernel_calls
unfolding kernel_calls
call_numbers = refl
