-- The mappings of one process, which stand together.
use Rattle.std.specs.Prelude.{◌≡◌, ℕ, ◌+◌, ◌-◌, List, length, slice_range}
use Rattle.std.specs.List.{remove_range}
use Rattle.ce_model.specs.Blocks.{Block}
use Rattle.xm_owner.specs.Holdings.{process_blocks, without_process}
use Rattle.xm_owner.specs.Tables.{mappings_of}
use Rattle.xm_owner.specs.declared.key.Key.{Key}

-- what is left where the keys from place `first` up to `last` are those of the process
pub record IsDrainedRange (pid : ℕ) (keys : List Key) (blocks : List Block)
    (first last : ℕ) : Type 0 where
  pub mappings : mappings_of (remove_range keys first last) (remove_range blocks first last)
      ≡ without_process pid (mappings_of keys blocks)
  pub taken : slice_range blocks first last ≡ process_blocks pid (mappings_of keys blocks)
  pub keys_left : length (remove_range keys first last) + (last - first) ≡ length keys
  pub blocks_left : length (remove_range blocks first last) + (last - first) ≡ length keys
  pub count : last - first ≡ length (process_blocks pid (mappings_of keys blocks))
