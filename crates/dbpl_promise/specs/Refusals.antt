-- Which answers refuse: where one comes, nothing was done.
use Rattle.std.specs.Prelude.{Bool, true, false}
use Rattle.dbpl_base.specs.declared.status.Status.{Status}
use Rattle.dbpl_base.specs.declared.status.Status.TheVariants as status

abbrev pub is_refusal : Status → Bool
is_refusal status.Done = false
is_refusal (status.Trapped kind place) = false
is_refusal (status.Stopped count) = false
is_refusal status.DiskFault = false
is_refusal status.InFault = false
is_refusal status.OutFault = false
is_refusal status.StoreFull = false
is_refusal status.Memory = false
is_refusal _ = true
